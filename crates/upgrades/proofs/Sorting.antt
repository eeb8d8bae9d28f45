-- The numbers 1 to n in another order, ascending by a value and then by themselves: those of one value stand side by side, in their order.
use Rattle.std.proofs.Common.{◌≡◌, ◌∙◌, ℕ, zero, suc, ◌+◌, ◌-◌, ◌*◌, ◌<◌, ◌≤◌, Bool, true, false, eqb, ltb, List, [], ◌∷◌, ◌++◌, length, get_or, take, drop, refl, ap, sym, subst, arith, inl, inr}
use Rattle.std.specs.List.{filter, range_with_len, slice_range, count_by, All, AllPairs, Contains, IsDistinct}
use Rattle.std.specs.List.Sorted.{IsStrictlyIncreasing, IsNonDecreasingBy, IsPermutation}
use Rattle.std.proofs.lemmas.Bool.{eqb-true, eqb-false, ne_eqb, eq-eqb, lt-ltb, le-ltb, cases_eq}
use Rattle.std.proofs.lemmas.List.{length-take, length-drop, get_or_default}
use Rattle.std.proofs.lemmas.List.Elements.{All-contains, filter_passes}
use Rattle.std.proofs.lemmas.List.FromFn.{length-range_with_len, get_or-range_with_len}
use Rattle.std.proofs.lemmas.List.Kept.{AllPairs-filter, AllPairs-from_increasing, IsStrictlyIncreasing-filter}
use Rattle.std.proofs.lemmas.List.Sorted.{Contains-permutation, IsPermutation-sym}
use Rattle.std.proofs.lemmas.List.Sums.{length-filter}
use Rattle.std.proofs.lemmas.Map.Keys.{IsDistinct-IsPermutation, IsDistinct-from_apart, apart_from_distinct}
use Rattle.upgrades.proofs.Rising.{Contains-filter, Contains-from_filter, same_rising}

pub range_rises : (n : ℕ) → IsStrictlyIncreasing (range_with_len 1 n)
range_rises n k lt =
    let long = length-range_with_len 1 n in
    let here : get_or (range_with_len 1 n) k 0 ≡ 1 + k = get_or-range_with_len 1 n k 0 (omega (arith, lt, long)) in
    let next : get_or (range_with_len 1 n) (k + 1) 0 ≡ 1 + (k + 1) = get_or-range_with_len 1 n (k + 1) 0 (omega (arith, lt, long)) in
    omega (arith, here, next)

range_push : (a n : ℕ) → range_with_len a (n + 1) ≡ range_with_len a n ++ (a + n) ∷ []
range_push a zero = let e : a + 0 ≡ a = omega arith in ap (λ (x : ℕ). x ∷ []) (sym e)
range_push a (suc n) =
    let e : suc n + 1 ≡ suc (n + 1) = omega arith in
    let last : a + 1 + n ≡ a + suc n = omega arith in
    ap (range_with_len a) e ∙ ap (λ (xs : List ℕ). a ∷ xs) (range_push (a + 1) n ∙ ap (λ (x : ℕ). range_with_len (a + 1) n ++ x ∷ []) last)

-- one number more
pub numbers_more : (xs : List ℕ) (i : ℕ) → xs ≡ range_with_len 1 i → xs ++ (i + 1) ∷ [] ≡ range_with_len 1 (i + 1)
numbers_more xs i is = let e : i + 1 ≡ 1 + i = omega arith in ap (λ (ys : List ℕ). ys ++ (i + 1) ∷ []) is ∙ (ap (λ (x : ℕ). range_with_len 1 i ++ x ∷ []) e ∙ sym (range_push 1 i))

range_distinct : (n : ℕ) → IsDistinct eqb (range_with_len 1 n)
range_distinct n = IsDistinct-from_apart eqb (range_with_len 1 n) (λ i j d less within.
    let long = length-range_with_len 1 n in
    let first : get_or (range_with_len 1 n) i d ≡ 1 + i = get_or-range_with_len 1 n i d (omega (arith, less, within, long)) in
    let second : get_or (range_with_len 1 n) j d ≡ 1 + j = get_or-range_with_len 1 n j d (omega (arith, within, long)) in
    ne_eqb _ _ (λ e. omega (arith, less, first, second, e)))

eqb_flips : (x y : ℕ) → eqb x y ≡ eqb y x
eqb_flips x y = elim (cases_eq x y) [ inl e ↦ eq-eqb x y e ∙ sym (eq-eqb y x (sym e)) | inr ne ↦ ne_eqb x y ne ∙ sym (ne_eqb y x (λ e. ne (sym e))) ]

pub contains_range : (n k : ℕ) → 1 ≤ k → k ≤ n → Contains (range_with_len 1 n) k
contains_range n k low high =
    let long = length-range_with_len 1 n in
    let at : get_or (range_with_len 1 n) (k - 1) k ≡ 1 + (k - 1) = get_or-range_with_len 1 n (k - 1) k (omega (arith, low, high)) in
    (k - 1, omega (arith, low, high, long), omega (arith, low, at))

pub range_within : (n : ℕ) → All (λ k. (1 ≤ k) × (k ≤ n)) (range_with_len 1 n)
range_within n k d lt =
    let long = length-range_with_len 1 n in
    let at : get_or (range_with_len 1 n) k d ≡ 1 + k = get_or-range_with_len 1 n k d (omega (arith, lt, long)) in
    (omega (arith, at), omega (arith, at, lt, long))

module _ (f : ℕ → ℕ) (n : ℕ) (xs : List ℕ) (all : IsPermutation (range_with_len 1 n) xs) (up : IsNonDecreasingBy (λ k. f k * 4294967296 + k) xs) where
  abbrev InOrder : ℕ → ℕ → Type 0
  InOrder x y = (f x * 4294967296 + x ≤ f y * 4294967296 + y) × (eqb x y ≡ false)

  in_order : AllPairs InOrder xs
  in_order i j d less within = (up i j d (omega (arith, less)) within, apart_from_distinct eqb xs i j d (IsDistinct-IsPermutation eqb eqb_flips (range_with_len 1 n) xs all (range_distinct n)) less within)

  module _ (q : ℕ) where
    abbrev has_value : ℕ → Bool
    has_value k = eqb (f k) q

    rising : IsStrictlyIncreasing (filter has_value xs)
    rising k lt =
        let ys = filter has_value xs in
        let pair : InOrder (get_or ys k 0) (get_or ys (k + 1) 0) = AllPairs-filter InOrder has_value xs in_order k (k + 1) 0 (omega arith) lt in
        let first : f (get_or ys k 0) ≡ q = eqb-true _ _ (filter_passes has_value xs k 0 (omega (arith, lt))) in
        let second : f (get_or ys (k + 1) 0) ≡ q = eqb-true _ _ (filter_passes has_value xs (k + 1) 0 lt) in
        let apart : get_or ys k 0 ≡ get_or ys (k + 1) 0 → ⊥ = eqb-false _ _ pair.1 in
        let ordered : f (get_or ys k 0) * 4294967296 + get_or ys k 0 ≤ f (get_or ys (k + 1) 0) * 4294967296 + get_or ys (k + 1) 0 = pair.0 in
        elim (cases_eq (get_or ys k 0) (get_or ys (k + 1) 0)) [ inl e ↦ absurd (apart e) | inr ne ↦ omega (arith, first, second, ordered, ne) ]

    passes : (ys : List ℕ) (z : ℕ) → Contains (filter has_value ys) z → has_value z ≡ true
    passes ys z h = All-contains (λ k. has_value k ≡ true) (filter has_value ys) z (filter_passes has_value ys) h

    pub same_value : filter has_value xs ≡ filter has_value (range_with_len 1 n)
    same_value = same_rising (filter has_value xs) (filter has_value (range_with_len 1 n)) rising (IsStrictlyIncreasing-filter has_value (range_with_len 1 n) (range_rises n))
        (λ z h. Contains-filter has_value (range_with_len 1 n) z (passes xs z h) (Contains-permutation xs (range_with_len 1 n) z (IsPermutation-sym (range_with_len 1 n) xs all) (Contains-from_filter has_value xs z h)))
        (λ z h. Contains-filter has_value xs z (passes (range_with_len 1 n) z h) (Contains-permutation (range_with_len 1 n) xs z all (Contains-from_filter has_value (range_with_len 1 n) z h)))

  pub number_within : (k : ℕ) → k < length xs → (1 ≤ get_or xs k 0) × (get_or xs k 0 ≤ n)
  number_within k lt = All-contains (λ x. (1 ≤ x) × (x ≤ n)) (range_with_len 1 n) (get_or xs k 0) (range_within n) (Contains-permutation xs (range_with_len 1 n) (get_or xs k 0) (IsPermutation-sym (range_with_len 1 n) xs all) (k, lt, get_or_default xs k (get_or xs k 0) 0 lt))

  -- a value does not fall from place to place, as long as the numbers fit 32 bits
  pub value_ascends : n < 4294967296 → (i j : ℕ) → i ≤ j → j < length xs → f (get_or xs i 0) ≤ f (get_or xs j 0)
  value_ascends small i j le within =
      let ordered : f (get_or xs i 0) * 4294967296 + get_or xs i 0 ≤ f (get_or xs j 0) * 4294967296 + get_or xs j 0 = up i j 0 le within in
      let high : get_or xs j 0 ≤ n = (number_within j within).1 in
      omega (arith, ordered, high, small)

-- what passes a test stands from place i up to place j
pub segment : (p : ℕ → Bool) (xs : List ℕ) (i j : ℕ) → i ≤ j → j ≤ length xs → ((k : ℕ) → k < i → p (get_or xs k 0) ≡ false) → ((k : ℕ) → i ≤ k → k < j → p (get_or xs k 0) ≡ true)
    → ((k : ℕ) → j ≤ k → k < length xs → p (get_or xs k 0) ≡ false) → filter p xs ≡ slice_range xs i j
segment p [] zero zero le within below here above = refl
segment p [] zero (suc j) le within below here above = absurd (omega (arith, within))
segment p [] (suc i) j le within below here above = absurd (omega (arith, le, within))
segment p (x ∷ xs) zero zero le within below here above =
    rw (above zero (omega arith) (omega arith)) (segment p xs zero zero (omega arith) (omega arith) (λ k lt. absurd (omega (arith, lt))) (λ k low high. absurd (omega (arith, high))) (λ k low high. above (suc k) (omega arith) (omega (arith, high))))
segment p (x ∷ xs) zero (suc j) le within below here above =
    let more : filter p xs ≡ slice_range xs zero j = segment p xs zero j (omega arith) (omega (arith, within)) (λ k lt. absurd (omega (arith, lt))) (λ k low high. here (suc k) (omega arith) (omega (arith, high))) (λ k low high. above (suc k) (omega (arith, low)) (omega (arith, high))) in
    let plain : j - 0 ≡ j = omega arith in
    let plain' : suc j - 0 ≡ suc j = omega arith in
    let more' : filter p xs ≡ take j xs = more ∙ ap (λ (m : ℕ). take m xs) plain in
    rw (here zero (omega arith) (omega arith), plain') (ap (λ (ys : List ℕ). x ∷ ys) more')
segment p (x ∷ xs) (suc i) zero le within below here above = absurd (omega (arith, le))
segment p (x ∷ xs) (suc i) (suc j) le within below here above =
    let more : filter p xs ≡ slice_range xs i j = segment p xs i j (omega (arith, le)) (omega (arith, within)) (λ k lt. below (suc k) (omega (arith, lt))) (λ k low high. here (suc k) (omega (arith, low)) (omega (arith, high))) (λ k low high. above (suc k) (omega (arith, low)) (omega (arith, high))) in
    let same : suc j - suc i ≡ j - i = omega arith in
    rw (below zero (omega arith), same) more

-- in an ascending list as many numbers are lower than one of them as stand before it
pub lower_before : (xs : List ℕ) (i : ℕ) → IsStrictlyIncreasing xs → i < length xs → count_by (λ j. ltb j (get_or xs i 0)) xs ≡ i
lower_before xs i up lt =
    let front : filter (λ j. ltb j (get_or xs i 0)) xs ≡ slice_range xs 0 i = segment (λ j. ltb j (get_or xs i 0)) xs 0 i (omega arith) (omega (arith, lt)) (λ k none. absurd (omega (arith, none)))
    (λ k low high. lt-ltb _ _ (AllPairs-from_increasing xs up k i 0 high lt))
    (λ k low high. elim (cases_eq i k) [
      | inl e ↦ subst (λ (m : ℕ). ltb (get_or xs m 0) (get_or xs i 0) ≡ false) e (le-ltb (get_or xs i 0) (get_or xs i 0) (omega arith))
      | inr ne ↦ let less : get_or xs i 0 < get_or xs k 0 = AllPairs-from_increasing xs up i k 0 (omega (arith, low, ne)) high in le-ltb _ _ (omega (arith, less))
    ]) in
    let many : length (slice_range xs 0 i) ≡ i = omega (arith, length-take (i - 0) (drop 0 xs), length-drop 0 xs, lt) in
    sym (length-filter (λ j. ltb j (get_or xs i 0)) xs) ∙ (ap length front ∙ many)
