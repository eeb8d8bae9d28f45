-- Two ascending lists of the same numbers are one.
use Rattle.std.proofs.Common.{◌≡◌, ℕ, zero, suc, ◌<◌, Bool, true, List, [], ◌∷◌, length, get_or, refl, sym, arith, add-one, inl, inr, ◌⊎◌}
use Rattle.std.specs.List.{filter, Contains}
use Rattle.std.specs.List.Sorted.{IsStrictlyIncreasing}
use Rattle.std.proofs.lemmas.Bool.{cases_Bool}

-- z is one of these numbers
In : List ℕ → ℕ → Type 0
In [] z = ⊥
In (x ∷ xs) z = (x ≡ z) ⊎ In xs z

in_at : (xs : List ℕ) (z k : ℕ) → k < length xs → get_or xs k z ≡ z → In xs z
unfolding In
in_at [] z k lt e = absurd (omega arith)
in_at (x ∷ xs) z zero lt e = inl e
in_at (x ∷ xs) z (suc k) lt e = inr (in_at xs z k (omega arith) e)

in_from : (xs : List ℕ) (z : ℕ) → Contains xs z → In xs z
in_from xs z h = in_at xs z h.0 h.1 h.2

in_to : (xs : List ℕ) (z : ℕ) → In xs z → Contains xs z
unfolding In
in_to [] z h = absurd h
in_to (x ∷ xs) z (inl e) = (zero, omega arith, e)
in_to (x ∷ xs) z (inr h) = let w = in_to xs z h in let lt = w.1 in (suc w.0, omega arith, w.2)

in_filter : (p : ℕ → Bool) (xs : List ℕ) (z : ℕ) → p z ≡ true → In xs z → In (filter p xs) z
unfolding In
in_filter p [] z is h = absurd h
in_filter p (x ∷ xs) z is (inl e) = let here : p x ≡ true = rw e is in rw here (inl e)
in_filter p (x ∷ xs) z is (inr h) =
    elim (cases_Bool (p x)) [ inl here ↦ rw here (inr (in_filter p xs z is h)) | inr other ↦ rw other (in_filter p xs z is h) ]

from_filter : (p : ℕ → Bool) (xs : List ℕ) (z : ℕ) → In (filter p xs) z → In xs z
unfolding In
from_filter p [] z h = h
from_filter p (x ∷ xs) z h =
    elim (cases_Bool (p x)) [
      | inl here ↦ let found : (x ≡ z) ⊎ In (filter p xs) z = rw here at h in elim found [ inl e ↦ inl e | inr g ↦ inr (from_filter p xs z g) ]
      | inr other ↦ let found : In (filter p xs) z = rw other at h in inr (from_filter p xs z found)
    ]

pub Contains-filter : (p : ℕ → Bool) (xs : List ℕ) (z : ℕ) → p z ≡ true → Contains xs z → Contains (filter p xs) z
Contains-filter p xs z is h = in_to (filter p xs) z (in_filter p xs z is (in_from xs z h))

pub Contains-from_filter : (p : ℕ → Bool) (xs : List ℕ) (z : ℕ) → Contains (filter p xs) z → Contains xs z
Contains-from_filter p xs z h = in_to xs z (from_filter p xs z (in_from (filter p xs) z h))

abbrev Rises : List ℕ → Type 0
Rises xs = (k : ℕ) → suc k < length xs → get_or xs k 0 < get_or xs (suc k) 0

rises : (xs : List ℕ) → IsStrictlyIncreasing xs → Rises xs
rises xs up k lt = rw (← add-one k) (up k (omega arith))

rest_rises : (x : ℕ) (xs : List ℕ) → Rises (x ∷ xs) → Rises xs
rest_rises x xs up k lt = up (suc k) (omega arith)

below_rest : (x : ℕ) (xs : List ℕ) → Rises (x ∷ xs) → (z : ℕ) → In xs z → x < z
unfolding In
below_rest x [] up z h = absurd h
below_rest x (y ∷ ys) up z (inl e) = let first : x < y = up zero (omega arith) in omega arith
below_rest x (y ∷ ys) up z (inr h) =
    let first : x < y = up zero (omega arith) in
    let more : y < z = below_rest y ys (rest_rises x (y ∷ ys) up) z h in
    omega arith

one_list : (xs ys : List ℕ) → Rises xs → Rises ys → ((z : ℕ) → In xs z → In ys z) → ((z : ℕ) → In ys z → In xs z) → xs ≡ ys
unfolding In
one_list [] [] up_xs up_ys to from = refl
one_list [] (y ∷ ys) up_xs up_ys to from = absurd (from y (inl refl))
one_list (x ∷ xs) [] up_xs up_ys to from = absurd (to x (inl refl))
one_list (x ∷ xs) (y ∷ ys) up_xs up_ys to from =
    let head : x ≡ y = elim (to x (inl refl)) [
      | inl e ↦ sym e
      | inr h ↦ elim (from y (inl refl)) [
        | inl e ↦ e
        | inr g ↦
            let up : x < y = below_rest x xs up_xs y g in
            let down : y < x = below_rest y ys up_ys x h in
            absurd (omega arith)
      ]
    ] in
    let to_rest : (z : ℕ) → In xs z → In ys z = λ z h. elim (to z (inr h)) [
      | inl e ↦ let up : x < z = below_rest x xs up_xs z h in absurd (omega arith)
      | inr g ↦ g
    ] in
    let from_rest : (z : ℕ) → In ys z → In xs z = λ z h. elim (from z (inr h)) [
      | inl e ↦ let up : y < z = below_rest y ys up_ys z h in absurd (omega arith)
      | inr g ↦ g
    ] in
    let tail : xs ≡ ys = one_list xs ys (rest_rises x xs up_xs) (rest_rises y ys up_ys) to_rest from_rest in
    cc

pub same_rising : (xs ys : List ℕ) → IsStrictlyIncreasing xs → IsStrictlyIncreasing ys → ((z : ℕ) → Contains xs z → Contains ys z) → ((z : ℕ) → Contains ys z → Contains xs z) → xs ≡ ys
same_rising xs ys up_xs up_ys to from =
    one_list xs ys (rises xs up_xs) (rises ys up_ys) (λ z h. in_from ys z (to z (in_to xs z h))) (λ z h. in_from xs z (from z (in_to ys z h)))
