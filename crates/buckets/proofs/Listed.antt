-- Lists of a tree that have the queued nodes, through a put and a take.
use Rattle.std.proofs.Common.{◌≡◌, ◌≢◌, ℕ, ◌≤◌, ◌/◌, ◌==◌, true, false, List, length, Option, Some, None, nat_cmp, refl, sym, ap, subst, ◌∙◌, arith, ne_eqb, IsSome, Result, OnOk, OnErr}
use Rattle.std.specs.Global.{Vec}
use Rattle.std.specs.Option.{option_map_or}
use Rattle.std.specs.BTreeMap as tree
use Rattle.std.specs.FinMap.{get, insert, empty, keys}
use Rattle.std.specs.Map.{lookup}
use Rattle.std.proofs.lemmas.Bool.{eqb-false}
use Rattle.std.proofs.lemmas.List.{nil_from_length}
use Rattle.std.proofs.lemmas.Map.Keys.{le_from_not_gt}
use Rattle.buckets.specs.Lists.{Lists, has_node, is_listed, AreEntriesListed}
use Rattle.buckets.specs.Queue.{Entries, bucket, TakesLeast}
use Rattle.buckets.specs.Tables.{without}
use Rattle.buckets.proofs.Tables.{tied}
use Rattle.buckets.proofs.Taken.{each-set, empty_from_nothing, left_outside, nothing_in_empty, without-bucket, without-none}

pub AreListed-empty : (width : ℕ) (lists : Lists) → AreEntriesListed width lists empty
AreListed-empty width lists node value e = absurd (nothing_in_empty node value e)

-- without lists there are no nodes
pub empty_from_no_lists : (width : ℕ) (lists : Lists) (m : Entries) → AreEntriesListed width lists m → length lists.entries ≡ 0 → m ≡ empty
empty_from_no_lists width lists m listed none = empty_from_nothing m (λ q v e.
    let gone : tree.get nat_cmp lists (v / width) ≡ None = ap (λ es. lookup (tree.is_at (nat_cmp (v / width))) es) (nil_from_length lists.entries none) in
    let wrong : false ≡ true = ap (λ (o : Option (Vec ℕ)). option_map_or (λ nodes. has_node nodes.items q) o false) (sym gone) ∙ listed q v e in
    let absurdity : ⊥ = cc in absurdity)

-- after the value is set, or is not for want of memory
pub AreListed-set : {A E : Type 0} (r : Result A E) (width : ℕ) (lists : Lists) (m n : Entries) (node value : ℕ) → AreEntriesListed width lists m → OnOk r (n ≡ insert m node value) → OnErr r (n ≡ m) → is_listed lists (value / width) node ≡ true → AreEntriesListed width lists n
AreListed-set r width lists m n node value listed ok err this = each-set r (λ q v. is_listed lists (v / width) q ≡ true) m n node value listed ok err this

-- the list of a bucket has its nodes
pub in_list : (width : ℕ) (lists : Lists) (m : Entries) (b : ℕ) (nodes : Vec ℕ) → AreEntriesListed width lists m → tree.get nat_cmp lists b ≡ Some nodes → (node value : ℕ) → get m node ≡ Some value → value / width ≡ b → has_node nodes.items node ≡ true
in_list width lists m b nodes listed here node value e same =
    sym (ap (λ (o : Option (Vec ℕ)). option_map_or (λ (list : Vec ℕ). has_node list.items node) o false) here) ∙ subst (λ k. is_listed lists k node ≡ true) same (listed node value e)

-- the least list is of the least bucket
least_listed : (width : ℕ) (lists : Lists) (m : Entries) (b : ℕ) → AreEntriesListed width lists m → tree.IsLowerBound nat_cmp lists b → (node value : ℕ) → get m node ≡ Some value → b ≤ value / width
least_listed width lists m b listed low node value e =
    le_from_not_gt b (value / width) (low (value / width)
    (elim (tree.get nat_cmp lists (value / width)) as (λ o. option_map_or (λ (list : Vec ℕ). has_node list.items node) o false ≡ true → IsSome o) [
      | None ↦ λ h. absurd (let absurdity : ⊥ = cc in absurdity)
      | Some list ↦ λ _. refl
    ] (listed node value e)))

-- the lists of the other buckets are as before, after a list was taken out
abbrev pub TakesList : Lists → ℕ → Lists → Type 0
TakesList old b new = (q : ℕ) → tree.is_at (nat_cmp b) q ≡ false → tree.get nat_cmp new q ≡ tree.get nat_cmp old q

pub AreListed-taken : (width : ℕ) (old new : Lists) (m n : Entries) (b : ℕ) (nodes : List ℕ) → AreEntriesListed width old m → TakesList old b new → nodes ≡ keys (bucket width b m) → n ≡ without nodes m → AreEntriesListed width new n
AreListed-taken width old new m n b nodes listed others just rest q v e =
    let left = left_outside width b m q v (sym (ap (λ (k : Entries). get k q) (rest ∙ ap (λ ks. without ks m) just)) ∙ e) in
    let apart : tree.is_at (nat_cmp b) (v / width) ≡ false = tied b (v / width) false (ne_eqb b (v / width) (λ same. left.1 (sym same))) in
    ap (λ (o : Option (Vec ℕ)). option_map_or (λ (list : Vec ℕ). has_node list.items q) o false) (others (v / width) apart) ∙ listed q v left.0

-- a list of which no node is left
pub AreListed-passed : (width : ℕ) (old new : Lists) (m : Entries) (b : ℕ) (nodes : List ℕ) → AreEntriesListed width old m → TakesList old b new → nodes ≡ keys (bucket width b m) → length nodes ≡ 0 → AreEntriesListed width new m
AreListed-passed width old new m b nodes listed others just none =
    AreListed-taken width old new m m b nodes listed others just (sym (ap (λ ks. without ks m) (nil_from_length nodes none) ∙ without-none m))

pub TakesLeast-taken : (width : ℕ) (lists : Lists) (m n : Entries) (b : ℕ) (nodes : List ℕ) → AreEntriesListed width lists m → tree.IsLowerBound nat_cmp lists b → nodes ≡ keys (bucket width b m) → n ≡ without nodes m → (length nodes == 0) ≡ false → TakesLeast width m b nodes n
TakesLeast-taken width lists m n b nodes listed low just rest some = record {
  some_node = let apart : length nodes ≢ 0 = eqb-false (length nodes) 0 some in omega arith;
  nodes = just;
  least = least_listed width lists m b listed low;
  rest = rest ∙ (ap (λ ks. without ks m) just ∙ without-bucket width b m);
}
