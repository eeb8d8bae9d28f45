-- To meet the requests that ask for less than is known is to meet all.
use Rattle.std.proofs.Common.{◌≡◌, ℕ, zero, suc, ◌+◌, ◌<◌, ◌≤◌, ◌⊎◌, Bool, true, false, cond, List, [], ◌∷◌, length, set, get_or, filter, Contains, Option, unwrap_or, refl, sym, ap, subst, ◌∙◌, inl, inr, arith, length-set}
use Rattle.std.specs.FinMap.{get}
use mir.Val.{bool_byte}
use Rattle.std.proofs.lemmas.Bool.{lt-ltb, cases_lt}
use Rattle.std.proofs.lemmas.List.{take-set, drop-set-lt, get_or-drop}
use Rattle.std.proofs.lemmas.List.Filters.{FiltersInPlace, FiltersInPlace-more_set, FiltersInPlace-more_no}
use Rattle.relax.specs.Values.{value_at, value_or}
use Rattle.buckets.specs.Queue.{Entries}
use Rattle.deltastep.specs.Search.{MeetsRequests, TookRequest}
use Rattle.deltastep.specs.Sifting.{lowers, sifted}
use Rattle.frontier.proofs.Members.{Contains-tail, Contains-nil}

-- what a filter keeps was there, and it keeps what passes
Contains-of_filter : {X : Type 0} (p : X → Bool) (xs : List X) (x : X) → Contains (filter p xs) x → Contains xs x
Contains-of_filter p [] x c = absurd (Contains-nil x c)
Contains-of_filter p (y ∷ ys) x c =
    elim (p y) as (λ b. Contains (cond b (y ∷ filter p ys) (filter p ys)) x → Contains (y ∷ ys) x) [
      | true ↦ λ c. of_head y ys x (filter p ys) (Contains-of_filter p ys x) c
      | false ↦ λ c. Contains-tail y ys x (Contains-of_filter p ys x c)
    ] c
  where
    of_head : {X : Type 0} (y : X) (ys : List X) (x : X) (zs : List X) → (Contains zs x → Contains ys x) → Contains (y ∷ zs) x → Contains (y ∷ ys) x
    of_head y ys x zs rest (zero, lt, e) = (0, omega arith, e)
    of_head y ys x zs rest (suc k, lt, e) = Contains-tail y ys x (rest (k, omega arith, e))

Contains-filter : {X : Type 0} (p : X → Bool) (xs : List X) (x : X) → Contains xs x → p x ≡ true → Contains (filter p xs) x
Contains-filter p [] x c is = absurd (Contains-nil x c)
Contains-filter p (y ∷ ys) x (zero, lt, e) is =
    subst (λ b. Contains (cond b (y ∷ filter p ys) (filter p ys)) x) (sym (ap p e ∙ is)) (0, omega arith, e)
Contains-filter p (y ∷ ys) x (suc k, lt, e) is =
    let rest : Contains (filter p ys) x = Contains-filter p ys x (k, omega arith, e) is in
    elim (p y) as (λ b. Contains (cond b (y ∷ filter p ys) (filter p ys)) x) [ true ↦ Contains-tail y (filter p ys) x rest | false ↦ rest ]

pub MeetsRequests-sifted : (top : ℕ) (requests : List (ℕ × ℕ)) (old : List (Option ℕ)) (queue : Entries) (new : List (Option ℕ)) (queue' : Entries) → MeetsRequests top (sifted top old requests) old queue new queue' → MeetsRequests top requests old queue new queue'
MeetsRequests-sifted top requests old queue new queue' met =
    let falls : (u : ℕ) → value_or top new u ≤ value_or top old u = λ u. elim (met.moves u) as (λ _. value_or top new u ≤ value_or top old u) [
      | inl stays ↦ let same : value_or top new u ≡ value_or top old u = ap (λ (o : Option ℕ). unwrap_or o top) stays.0 in omega (arith, same)
      | inr took ↦ let now : value_or top new u ≡ took.value = ap (λ (o : Option ℕ). unwrap_or o top) took.has in omega (arith, now, took.lower)
    ] in
    record {
      places = met.places;
      moves = λ u. elim (met.moves u) as (λ _. ((value_at new u ≡ value_at old u) × (get queue' u ≡ get queue u)) ⊎ TookRequest top requests old new queue' u) [
        | inl stays ↦ inl stays
        | inr took ↦ inr (record { value = took.value; asked = Contains-of_filter (lowers top old) requests (u, took.value) took.asked; lower = took.lower; has = took.has; queued = took.queued })
      ];
      met = λ u value asked. elim (cases_lt value (value_or top old u)) as (λ _. value_or top new u ≤ value) [
        | inl lt ↦ met.met u value (Contains-filter (lowers top old) requests (u, value) asked (lt-ltb value (value_or top old u) lt))
        | inr le ↦ omega (arith, falls u, le)
      ];
    }

-- ---- a filter in place that writes each element

written : {X : Type 0} (p : X → Bool) (xs ys : List X) (k i : ℕ) (x : X) → FiltersInPlace p xs ys k i → k < i → FiltersInPlace p xs (set ys k x) k i
written p xs ys k i x so_far lt = record {
  front = take-set ys k x ∙ so_far.front;
  rest = drop-set-lt i ys k x lt ∙ so_far.rest;
  behind = so_far.behind;
  within = so_far.within;
  long = length-set ys k x ∙ so_far.long;
}

-- one more is read and written, and counted where it passes
pub FiltersInPlace-step : {X : Type 0} (p : X → Bool) (xs ys : List X) (k i : ℕ) (x : X) (b : Bool) → FiltersInPlace p xs ys k i → i < length ys → p x ≡ b → x ≡ get_or ys i x → FiltersInPlace p xs (set ys k x) (k + cond b 1 0) (i + 1)
FiltersInPlace-step p xs ys k i x true so_far lt is at = FiltersInPlace-more_set so_far lt is at
FiltersInPlace-step p xs ys k i x false so_far lt is at =
    let more = FiltersInPlace-more_no so_far lt is at in
    let same : k ≡ k + 0 = omega arith in
    subst (λ n. FiltersInPlace p xs (set ys k x) n (i + 1)) same (written p xs ys k (i + 1) x more (omega (arith, so_far.behind)))

-- what is at hand is what was there at first
pub read_first : {X : Type 0} (p : X → Bool) (xs ys : List X) (k i : ℕ) (d : X) → FiltersInPlace p xs ys k i → get_or ys i d ≡ get_or xs i d
read_first p xs ys k i d so_far =
    let plus : i + 0 ≡ i = omega arith in
    ap (λ n. get_or ys n d) (sym plus) ∙ (sym (get_or-drop i ys 0 d) ∙ (ap (λ l. get_or l 0 d) so_far.rest ∙ (get_or-drop i xs 0 d ∙ ap (λ n. get_or xs n d) plus)))

pub any_default : {X : Type 0} (xs : List X) (i : ℕ) (d e : X) → i < length xs → get_or xs i d ≡ get_or xs i e
any_default [] i d e lt = absurd (omega arith)
any_default (x ∷ xs) zero d e lt = refl
any_default (x ∷ xs) (suc i) d e lt = any_default xs i d e (omega arith)

pub bool_byte_is : (b : Bool) → bool_byte b ≡ cond b 1 0
bool_byte_is true = refl
bool_byte_is false = refl

pub one_at_most : (b : Bool) → cond b 1 0 ≤ 1
one_at_most true = omega arith
one_at_most false = omega arith
