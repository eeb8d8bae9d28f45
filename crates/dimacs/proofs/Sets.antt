-- A list that is sorted and then loses its repeats is the set of its numbers.
use Rattle.std.proofs.Common.{◌≡◌, ℕ, zero, suc, ◌<◌, Bool, true, eqb, ltb, List, [], ◌∷◌, ◌++◌, length, get_or, refl, sym, ◌∙◌, arith, add-one, inl, inr, ◌⊎◌}
use Rattle.std.specs.List.{filter, fold, dedup, Contains}
use Rattle.std.specs.List.Retain.{DiffersFromLast, IsFiltered}
use Rattle.std.specs.List.Sorted.{IsStrictlyIncreasing, IsPermutation, IsSorted}
use Rattle.std.specs.Ordering.{nat_cmp}
use Rattle.std.proofs.lemmas.Bool.{cases_Bool, cases_eq, cases_lt, lt-ltb}
use Rattle.std.proofs.lemmas.List.Filters.{dedup_is}
use Rattle.std.proofs.lemmas.List.Kept.{Contains-dedup_nat, Contains-from_dedup}
use Rattle.std.proofs.lemmas.List.Sorted.{Contains-permutation, IsPermutation-sym}
use Rattle.std.proofs.lemmas.Map.Keys.{IsStrictlyIncreasing-dedup}
use Rattle.roadnet.specs.Members.{with_member, set_of}
use Rattle.roadnet.proofs.Members.{IsStrictlyIncreasing-set_of}

-- z is one of these numbers
In : List ℕ → ℕ → Type 0
In [] z = ⊥
In (x ∷ xs) z = (x ≡ z) ⊎ In xs z

in_at : (xs : List ℕ) (z k : ℕ) → k < length xs → get_or xs k z ≡ z → In xs z
unfolding In
in_at [] z k lt e = absurd (omega arith)
in_at (x ∷ xs) z zero lt e = inl e
in_at (x ∷ xs) z (suc k) lt e = inr (in_at xs z k (omega arith) e)

in_from : (xs : List ℕ) (z : ℕ) → Contains xs z → In xs z
in_from xs z h = in_at xs z h.0 h.1 h.2

in_to : (xs : List ℕ) (z : ℕ) → In xs z → Contains xs z
unfolding In
in_to [] z h = absurd h
in_to (x ∷ xs) z (inl e) = (zero, omega arith, e)
in_to (x ∷ xs) z (inr h) = let w = in_to xs z h in let lt = w.1 in (suc w.0, omega arith, w.2)

in_front : (xs ys : List ℕ) (z : ℕ) → In xs z → In (xs ++ ys) z
unfolding In
in_front [] ys z h = absurd h
in_front (x ∷ xs) ys z (inl e) = inl e
in_front (x ∷ xs) ys z (inr h) = inr (in_front xs ys z h)

in_back : (xs ys : List ℕ) (z : ℕ) → In ys z → In (xs ++ ys) z
unfolding In
in_back [] ys z h = h
in_back (x ∷ xs) ys z h = inr (in_back xs ys z h)

in_either : (xs ys : List ℕ) (z : ℕ) → In (xs ++ ys) z → In xs z ⊎ In ys z
unfolding In
in_either [] ys z h = inr h
in_either (x ∷ xs) ys z (inl e) = inl (inl e)
in_either (x ∷ xs) ys z (inr h) = elim (in_either xs ys z h) [ inl a ↦ inl (inr a) | inr b ↦ inr b ]

in_filter : (p : ℕ → Bool) (xs : List ℕ) (z : ℕ) → p z ≡ true → In xs z → In (filter p xs) z
unfolding In
in_filter p [] z is h = absurd h
in_filter p (x ∷ xs) z is (inl e) = let here : p x ≡ true = rw e is in rw here (inl e)
in_filter p (x ∷ xs) z is (inr h) =
    elim (cases_Bool (p x)) [ inl here ↦ rw here (inr (in_filter p xs z is h)) | inr other ↦ rw other (in_filter p xs z is h) ]

from_filter : (p : ℕ → Bool) (xs : List ℕ) (z : ℕ) → In (filter p xs) z → In xs z
unfolding In
from_filter p [] z h = h
from_filter p (x ∷ xs) z h =
    elim (cases_Bool (p x)) [
      | inl here ↦ let found : (x ≡ z) ⊎ In (filter p xs) z = rw here at h in elim found [ inl e ↦ inl e | inr g ↦ inr (from_filter p xs z g) ]
      | inr other ↦ let found : In (filter p xs) z = rw other at h in inr (from_filter p xs z found)
    ]

-- ---- the set with x, and the set of a list
in_with : (x : ℕ) (xs : List ℕ) (z : ℕ) → (x ≡ z) ⊎ In xs z → In (with_member x xs) z
unfolding In
in_with x xs z (inl e) = in_back (filter (λ y. ltb y x) xs) (x ∷ filter (λ y. ltb x y) xs) z (inl e)
in_with x xs z (inr h) =
    elim (cases_lt z x) [
      | inl below ↦ in_front (filter (λ y. ltb y x) xs) (x ∷ filter (λ y. ltb x y) xs) z (in_filter (λ y. ltb y x) xs z (lt-ltb _ _ below) h)
      | inr above ↦ elim (cases_eq x z) [
        | inl e ↦ in_back (filter (λ y. ltb y x) xs) (x ∷ filter (λ y. ltb x y) xs) z (inl e)
        | inr apart ↦ in_back (filter (λ y. ltb y x) xs) (x ∷ filter (λ y. ltb x y) xs) z (inr (in_filter (λ y. ltb x y) xs z (lt-ltb _ _ (omega arith)) h))
      ]
    ]

from_with : (x : ℕ) (xs : List ℕ) (z : ℕ) → In (with_member x xs) z → (x ≡ z) ⊎ In xs z
unfolding In
from_with x xs z h =
    elim (in_either (filter (λ y. ltb y x) xs) (x ∷ filter (λ y. ltb x y) xs) z h) [
      | inl below ↦ inr (from_filter (λ y. ltb y x) xs z below)
      | inr (inl e) ↦ inl e
      | inr (inr above) ↦ inr (from_filter (λ y. ltb x y) xs z above)
    ]

in_fold : (set xs : List ℕ) (z : ℕ) → In set z ⊎ In xs z → In (fold (λ s x. with_member x s) set xs) z
unfolding In
in_fold set [] z (inl h) = h
in_fold set [] z (inr h) = absurd h
in_fold set (x ∷ xs) z (inl h) = in_fold (with_member x set) xs z (inl (in_with x set z (inr h)))
in_fold set (x ∷ xs) z (inr (inl e)) = in_fold (with_member x set) xs z (inl (in_with x set z (inl e)))
in_fold set (x ∷ xs) z (inr (inr h)) = in_fold (with_member x set) xs z (inr h)

from_fold : (set xs : List ℕ) (z : ℕ) → In (fold (λ s x. with_member x s) set xs) z → In set z ⊎ In xs z
unfolding In
from_fold set [] z h = inl h
from_fold set (x ∷ xs) z h =
    elim (from_fold (with_member x set) xs z h) [
      | inr g ↦ inr (inr g)
      | inl g ↦ elim (from_with x set z g) [ inl e ↦ inr (inl e) | inr f ↦ inl f ]
    ]

in_set : (xs : List ℕ) (z : ℕ) → In xs z → In (set_of xs) z
in_set xs z h = in_fold [] xs z (inr h)

from_set : (xs : List ℕ) (z : ℕ) → In (set_of xs) z → In xs z
unfolding In
from_set xs z h = elim (from_fold [] xs z h) [ inl none ↦ absurd none | inr g ↦ g ]

-- ---- two ascending lists of the same numbers are one
abbrev Rises : List ℕ → Type 0
Rises xs = (k : ℕ) → suc k < length xs → get_or xs k 0 < get_or xs (suc k) 0

rises : (xs : List ℕ) → IsStrictlyIncreasing xs → Rises xs
rises xs up k lt = rw (← add-one k) (up k (omega arith))

rest_rises : (x : ℕ) (xs : List ℕ) → Rises (x ∷ xs) → Rises xs
rest_rises x xs up k lt = up (suc k) (omega arith)

below_rest : (x : ℕ) (xs : List ℕ) → Rises (x ∷ xs) → (z : ℕ) → In xs z → x < z
unfolding In
below_rest x [] up z h = absurd h
below_rest x (y ∷ ys) up z (inl e) = let first : x < y = up zero (omega arith) in omega arith
below_rest x (y ∷ ys) up z (inr h) =
    let first : x < y = up zero (omega arith) in
    let more : y < z = below_rest y ys (rest_rises x (y ∷ ys) up) z h in
    omega arith

same_rising : (xs ys : List ℕ) → Rises xs → Rises ys → ((z : ℕ) → In xs z → In ys z) → ((z : ℕ) → In ys z → In xs z) → xs ≡ ys
unfolding In
same_rising [] [] up_xs up_ys to from = refl
same_rising [] (y ∷ ys) up_xs up_ys to from = absurd (from y (inl refl))
same_rising (x ∷ xs) [] up_xs up_ys to from = absurd (to x (inl refl))
same_rising (x ∷ xs) (y ∷ ys) up_xs up_ys to from =
    let head : x ≡ y = elim (to x (inl refl)) [
      | inl e ↦ sym e
      | inr h ↦ elim (from y (inl refl)) [
        | inl e ↦ e
        | inr g ↦
            let up : x < y = below_rest x xs up_xs y g in
            let down : y < x = below_rest y ys up_ys x h in
            absurd (omega arith)
      ]
    ] in
    let to_rest : (z : ℕ) → In xs z → In ys z = λ z h. elim (to z (inr h)) [
      | inl e ↦ let up : x < z = below_rest x xs up_xs z h in absurd (omega arith)
      | inr g ↦ g
    ] in
    let from_rest : (z : ℕ) → In ys z → In xs z = λ z h. elim (from z (inr h)) [
      | inl e ↦ let up : y < z = below_rest y ys up_ys z h in absurd (omega arith)
      | inr g ↦ g
    ] in
    let tail : xs ≡ ys = same_rising xs ys (rest_rises x xs up_xs) (rest_rises y ys up_ys) to_rest from_rest in
    cc

pub set_from_sorted : (xs sorted kept : List ℕ) → IsPermutation xs sorted → IsSorted nat_cmp sorted → IsFiltered (DiffersFromLast eqb) [] sorted kept → kept ≡ set_of xs
set_from_sorted xs sorted kept moved up left =
    let is : kept ≡ dedup eqb sorted = dedup_is eqb sorted kept left in
    is ∙ same_rising (dedup eqb sorted) (set_of xs) (rises _ (IsStrictlyIncreasing-dedup sorted up)) (rises _ (IsStrictlyIncreasing-set_of xs))
    (λ z h. in_set xs z (in_from xs z (Contains-permutation sorted xs z (IsPermutation-sym xs sorted moved) (Contains-from_dedup eqb sorted z (in_to _ z h)))))
    (λ z h. in_from _ z (Contains-dedup_nat sorted z (Contains-permutation xs sorted z moved (in_to xs z (from_set xs z h)))))

pub set_is_ascending : (xs set : List ℕ) → set ≡ set_of xs → IsStrictlyIncreasing set
set_is_ascending xs set e = rw e (IsStrictlyIncreasing-set_of xs)

-- an ascending list is the set of its numbers
pub set_of_ascending : (xs : List ℕ) → IsStrictlyIncreasing xs → set_of xs ≡ xs
set_of_ascending xs up = same_rising (set_of xs) xs (rises _ (IsStrictlyIncreasing-set_of xs)) (rises _ up) (from_set xs) (in_set xs)

pub set_of_set : (xs : List ℕ) → set_of (set_of xs) ≡ set_of xs
set_of_set xs = set_of_ascending (set_of xs) (IsStrictlyIncreasing-set_of xs)
