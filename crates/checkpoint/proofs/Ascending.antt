-- The set of ascending numbers is their list.
use Rattle.std.proofs.Common.{◌≡◌, ℕ, ◌+◌, ◌<◌, List, [], ◌∷◌, ◌++◌, length, get_or, take, true, false, cond, refl, sym, ap, ◌∙◌, arith, zero, suc}
use Rattle.std.specs.Prelude.{nat_lt, filter}
use Rattle.std.specs.List.{AllPairs}
use Rattle.std.specs.List.Sorted.{IsStrictlyIncreasing}
use Rattle.std.proofs.lemmas.Bool.Decides.{nat_tests}
use Rattle.std.proofs.lemmas.List.{take_more, take_all, get_or-take, length-take}
use Rattle.std.proofs.lemmas.List.Kept.{AllPairs-from_increasing}
use Rattle.roadnet.specs.Members.{with_member, set_of}
use Rattle.roadnet.proofs.Members.{set_of_more}

-- each of these numbers is below x
abbrev Below : ℕ → List ℕ → Type 0
Below x xs = (i : ℕ) → i < length xs → get_or xs i 0 < x

rest_below : (x y : ℕ) (ys : List ℕ) → Below x (y ∷ ys) → Below x ys
rest_below x y ys below i lt = below (suc i) (omega arith)

all_kept : (x : ℕ) (ys : List ℕ) → Below x ys → filter (λ y. nat_lt y x) ys ≡ ys
all_kept x [] below = refl
all_kept x (y ∷ ys) below =
    let first : y < x = below 0 (omega arith) in
    let t : nat_lt y x ≡ true = grind (arith, nat_tests) in
    ap (λ b. cond b (y ∷ filter (λ y. nat_lt y x) ys) (filter (λ y. nat_lt y x) ys)) t ∙ ap (λ zs. y ∷ zs) (all_kept x ys (rest_below x y ys below))

none_kept : (x : ℕ) (ys : List ℕ) → Below x ys → filter (λ y. nat_lt x y) ys ≡ []
none_kept x [] below = refl
none_kept x (y ∷ ys) below =
    let first : y < x = below 0 (omega arith) in
    let t : nat_lt x y ≡ false = grind (arith, nat_tests) in
    ap (λ b. cond b (y ∷ filter (λ y. nat_lt x y) ys) (filter (λ y. nat_lt x y) ys)) t ∙ none_kept x ys (rest_below x y ys below)

last_member : (x : ℕ) (ys : List ℕ) → Below x ys → with_member x ys ≡ ys ++ x ∷ []
last_member x ys below = ap (λ zs. zs ++ x ∷ filter (λ y. nat_lt x y) ys) (all_kept x ys below) ∙ ap (λ zs. ys ++ x ∷ zs) (none_kept x ys below)

front_set : (xs : List ℕ) (i : ℕ) → AllPairs (λ x y. x < y) xs → i < length xs + 1 → set_of (take i xs) ≡ take i xs
front_set xs zero up lt = refl
front_set xs (suc i) up lt =
    let e : suc i ≡ i + 1 = omega arith in
    let within : i < length xs = omega arith in
    let below : Below (get_or xs i 0) (take i xs) = λ j j_lt.
    let early : j < i = omega (arith, length-take i xs) in
    let at : get_or (take i xs) j 0 ≡ get_or xs j 0 = get_or-take i xs j 0 early in
    omega (arith, at, up j i 0 early within) in
    ap (λ n. set_of (take n xs)) e ∙ set_of_more xs i within ∙ ap (with_member (get_or xs i 0)) (front_set xs i up (omega arith))
    ∙ last_member (get_or xs i 0) (take i xs) below ∙ sym (take_more xs i 0 within) ∙ ap (λ n. take n xs) (sym e)

pub set_of_ascending : (xs : List ℕ) → IsStrictlyIncreasing xs → set_of xs ≡ xs
set_of_ascending xs up =
    let whole : take (length xs) xs ≡ xs = take_all (length xs) xs (omega arith) in
    ap set_of (sym whole) ∙ front_set xs (length xs) (AllPairs-from_increasing xs up) (omega arith) ∙ whole
