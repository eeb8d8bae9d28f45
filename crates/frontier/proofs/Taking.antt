-- A taking in ascending order is one in any order.
use Rattle.std.proofs.Common.{◌≡◌, ◌<◌, ℕ, List, get_or, Contains, Option, MatchOption, None, Some, Result, Ok, Err, IfOk, eqb, ne_eqb, sym, subst, arith}
use Rattle.std.specs.FinMap.{keys, empty}
use Rattle.std.proofs.lemmas.Map.Keys.{IsDistinct-from_apart, below_from_sorted}
use Rattle.buckets.specs.Queue.{Entries, TakesLeast, bucket}
use Rattle.buckets.proofs.Members.{IsStrictlySortedBy-keys}
use Rattle.frontier.specs.Frontier.{TakesAny}

pub TakesAny-of_least : (width b : ℕ) (old : Entries) (taken : List ℕ) (new : Entries) → TakesLeast width old b taken new → TakesAny width old b taken new
TakesAny-of_least width b old taken new takes = record {
  some_node = takes.some_node;
  nodes = λ u. (λ c. subst (λ ks. Contains ks u) takes.nodes c, λ c. subst (λ ks. Contains ks u) (sym takes.nodes) c);
  once = rw takes.nodes (IsDistinct-from_apart eqb (keys (bucket width b old)) (λ i j d before within. ne_eqb _ _ (λ e. let less : get_or (keys (bucket width b old)) i d < get_or (keys (bucket width b old)) j d = below_from_sorted (keys (bucket width b old)) i j d (IsStrictlySortedBy-keys (bucket width b old)) before within in omega arith)));
  least = takes.least;
  rest = takes.rest;
}

pub TakesAny-option : (width : ℕ) (old : Entries) (taken : List ℕ) (new : Entries) (found : Option ℕ) → MatchOption found (old ≡ empty) (λ b. TakesLeast width old b taken new) → MatchOption found (old ≡ empty) (λ b. TakesAny width old b taken new)
TakesAny-option width old taken new None none = none
TakesAny-option width old taken new (Some b) takes = TakesAny-of_least width b old taken new takes

pub TakesAny-result : {E : Type 0} (width : ℕ) (old : Entries) (taken : List ℕ) (new : Entries) (r : Result (Option ℕ) E) → IfOk r (λ found. MatchOption found (old ≡ empty) (λ b. TakesLeast width old b taken new)) → IfOk r (λ found. MatchOption found (old ≡ empty) (λ b. TakesAny width old b taken new))
TakesAny-result width old taken new (Ok found) takes = TakesAny-option width old taken new found takes
TakesAny-result width old taken new (Err error) takes = tt
