-- Landmarks that were shared out, and their rows that are gathered again.
use Rattle.std.proofs.Common.{◌≡◌, ◌∙◌, ℕ, Bool, true, false, zero, suc, nat_lt, ◌+◌, ◌-◌, ◌<◌, ◌≤◌, List, [], ◌∷◌, ◌++◌, map, length, get_or, drop, take, slice_index_or, slice_index, sym, ap, subst, refl, arith}
use Rattle.std.specs.Prelude.{Result, Ok, IfOk}
use Rattle.std.proofs.lemmas.List.{get_or_append_left, get_or-map, drop_more, take_all, length-drop, length-append}
use Rattle.std.proofs.Math.Seq.{get_or-append_seam}
use Rattle.std.proofs.lemmas.List.Elements.{All-head, All-tail}
use Rattle.std.proofs.lemmas.Bool.Decides.{nat_tests}
use Rattle.roadnet.specs.Net.{Net}
use Rattle.rows.specs.declared.landmark_rows.Row.{Row}
use Rattle.rows.specs.Views.{IsRowAt}
use Rattle.desk.specs.Shares.{share_of, AreRowsOfLandmarks, AreSharesDealt}

-- a worker passes over one landmark
pub share_passed : (workers passed i : ℕ) (landmarks : List ℕ) → i < length landmarks → 0 < passed
    → share_of workers passed (drop i landmarks) ≡ share_of workers (passed - 1) (drop (i + 1) landmarks)
share_passed workers zero i landmarks lt some = elim some [ ]
share_passed workers (suc passed) i landmarks lt some =
    let less : passed ≡ suc passed - 1 = omega arith in
    ap (share_of workers (suc passed)) (drop_more landmarks i 0 lt) ∙ ap (λ (k : ℕ). share_of workers k (drop (i + 1) landmarks)) less

-- a worker takes one landmark
pub share_taken : (workers passed i : ℕ) (landmarks : List ℕ) → i < length landmarks → passed ≡ 0
    → share_of workers passed (drop i landmarks) ≡ get_or landmarks i 0 ∷ share_of workers (workers - 1) (drop (i + 1) landmarks)
share_taken workers passed i landmarks lt none = ap (λ (k : ℕ). share_of workers k (drop i landmarks)) none ∙ ap (share_of workers 0) (drop_more landmarks i 0 lt)

-- the rows of the first worker begin with that of the first landmark
pub first_dealt : (version : ℕ) (net : Net) (workers : ℕ) (x : ℕ) (xs : List ℕ) (part : List Row) (rest : List (List Row))
    → 1 ≤ workers → AreSharesDealt version net workers (x ∷ xs) (part ∷ rest) → AreRowsOfLandmarks version net (x ∷ share_of workers (workers - 1) xs) part
first_dealt version net workers x xs part rest some dealt = dealt.each 0 some

-- its landmark is the first one
pub first_landmark : (version : ℕ) (net : Net) (workers : ℕ) (left : List ℕ) (row : Row) (others : List Row) (rest : List (List Row))
    → 0 < length left → 1 ≤ workers → AreSharesDealt version net workers left ((row ∷ others) ∷ rest) → row.landmark ≡ slice_index left 0
first_landmark version net workers [] row others rest none some dealt = elim none [ ]
first_landmark version net workers (x ∷ xs) row others rest one some dealt =
    ap (λ (ls : List ℕ). get_or ls 0 0) (first_dealt version net workers x xs (row ∷ others) rest some dealt).landmarks_are

pub first_right : (version : ℕ) (net : Net) (workers : ℕ) (left : List ℕ) (row : Row) (others : List Row) (rest : List (List Row))
    → 0 < length left → 1 ≤ workers → AreSharesDealt version net workers left ((row ∷ others) ∷ rest) → IsRowAt version net row
first_right version net workers [] row others rest none some dealt = elim none [ ]
first_right version net workers (x ∷ xs) row others rest one some dealt =
    All-head (IsRowAt version net) row others (first_dealt version net workers x xs (row ∷ others) rest some dealt).each

-- what the workers have left behind it, the first one last
rest_each : (version : ℕ) (net : Net) (workers x : ℕ) (xs : List ℕ) (row : Row) (others : List Row) (rest : List (List Row))
    → 1 ≤ workers → AreSharesDealt version net workers (x ∷ xs) ((row ∷ others) ∷ rest)
    → (worker : ℕ) → worker < workers → (b : Bool) → nat_lt worker (length rest) ≡ b
    → AreRowsOfLandmarks version net (share_of workers worker xs) (slice_index_or (rest ++ others ∷ []) worker [])
rest_each version net workers x xs row others rest some dealt worker lt true is =
    let inside : worker < length rest = grind (arith, nat_tests) in
    let next : suc worker < workers = let long = dealt.length_is in omega arith in
    subst (AreRowsOfLandmarks version net (share_of workers worker xs)) (sym (get_or_append_left rest (others ∷ []) [] worker inside)) (dealt.each (suc worker) next)
rest_each version net workers x xs row others rest some dealt worker lt false is =
    let last : worker ≡ length rest = let long = dealt.length_is in grind (arith, nat_tests) in
    let share : worker ≡ workers - 1 = let long = dealt.length_is in omega arith in
    let first = first_dealt version net workers x xs (row ∷ others) rest some dealt in
    let own : AreRowsOfLandmarks version net (share_of workers (workers - 1) xs) others = record {
      landmarks_are = ap (λ (ls : List ℕ). drop 1 ls) first.landmarks_are;
      each = All-tail (IsRowAt version net) row others first.each;
    } in
    subst (λ (k : ℕ). AreRowsOfLandmarks version net (share_of workers k xs) (slice_index_or (rest ++ others ∷ []) worker [])) (sym share)
    (subst (λ (k : ℕ). AreRowsOfLandmarks version net (share_of workers (workers - 1) xs) (slice_index_or (rest ++ others ∷ []) k [])) (sym last)
    (subst (AreRowsOfLandmarks version net (share_of workers (workers - 1) xs)) (sym (get_or-append_seam rest others [] [])) own))

pub rest_dealt : (version : ℕ) (net : Net) (workers : ℕ) (left : List ℕ) (row : Row) (others : List Row) (rest : List (List Row))
    → 0 < length left → 1 ≤ workers → AreSharesDealt version net workers left ((row ∷ others) ∷ rest) → AreSharesDealt version net workers (drop 1 left) (rest ++ others ∷ [])
rest_dealt version net workers [] row others rest none some dealt = elim none [ ]
rest_dealt version net workers (x ∷ xs) row others rest one some dealt = record {
  length_is = let long = dealt.length_is in omega (arith, length-append rest (others ∷ []));
  each = λ (worker : ℕ) lt. rest_each version net workers x xs row others rest some dealt worker lt (nat_lt worker (length rest)) refl;
}

-- the first worker has a row, where a landmark is left
pub has_first : (version : ℕ) (net : Net) (workers : ℕ) (left : List ℕ) (all : List (List Row))
    → 0 < length left → 1 ≤ workers → AreSharesDealt version net workers left all → (row : Row) × (others : List Row) × (rest : List (List Row)) × (all ≡ (row ∷ others) ∷ rest)
has_first version net workers [] all none some dealt = elim none [ ]
has_first version net workers (x ∷ xs) [] one some dealt = absurd (let long = dealt.length_is in omega arith)
has_first version net workers (x ∷ xs) ([] ∷ rest) one some dealt =
    absurd (let none = ap (λ (ls : List ℕ). length ls) (dealt.each 0 some).landmarks_are in omega arith)
has_first version net workers (x ∷ xs) ((row ∷ others) ∷ rest) one some dealt = (row, others, rest, refl)

-- the landmarks from a place on
pub all_left : (i : ℕ) (landmarks : List ℕ) → take (length landmarks - i) (drop i landmarks) ≡ drop i landmarks
all_left i landmarks = take_all (length landmarks - i) (drop i landmarks) (let long = length-drop i landmarks in omega arith)

pub one_left_out : (i : ℕ) (landmarks : List ℕ) → i < length landmarks → drop 1 (drop i landmarks) ≡ drop (i + 1) landmarks
one_left_out i landmarks lt = ap (drop 1) (drop_more landmarks i 0 lt)

pub first_left : (i : ℕ) (landmarks : List ℕ) → i < length landmarks → slice_index (drop i landmarks) 0 ≡ get_or landmarks i 0
first_left i landmarks lt = ap (λ (ls : List ℕ). slice_index ls 0) (drop_more landmarks i 0 lt)

-- what each worker made is dealt
pub dealt_by : (version : ℕ) (net : Net) (workers : ℕ) (parts : List (List Row)) → length parts ≡ workers
    → ((worker : ℕ) → worker < workers → AreRowsOfLandmarks version net (share_of workers worker net.landmarks) (slice_index_or parts worker [])) → AreSharesDealt version net workers net.landmarks parts
dealt_by version net workers parts long each = record { length_is = long; each = each }

-- where each part was made, what holds of each that was made holds of each part
pub each_made : {X E : Type 0} (f : X → List Row) (P : ℕ → List Row → Type 0) (made : List (Result X E)) (parts : List X)
    → made ≡ map Ok parts → ((i : ℕ) (d : Result X E) → i < length parts → IfOk (slice_index_or made i d) (λ x. P i (f x)))
    → (i : ℕ) → i < length parts → P i (slice_index_or (map f parts) i [])
each_made f P made [] all each i lt = elim lt [ ]
each_made {X} {E} f P made (x ∷ xs) all each i lt =
    let at : slice_index_or made i (Ok x) ≡ Ok (slice_index_or (x ∷ xs) i x) = ap (λ (ms : List (Result X E)). slice_index_or ms i (Ok x)) all ∙ get_or-map Ok (x ∷ xs) i x (Ok x) lt in
    let own : P i (f (slice_index_or (x ∷ xs) i x)) = subst (λ (r : Result X E). IfOk r (λ y. P i (f y))) at (each i (Ok x) lt) in
    subst (P i) (sym (get_or-map f (x ∷ xs) i x [] lt)) own
