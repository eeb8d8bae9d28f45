-- What is kept of a network, and its arcs as they are now, tell its pages.
use Rattle.std.proofs.Common.{◌≡◌, ℕ, Bool, true, false, ◌+◌, ◌*◌, ◌%◌, ◌^◌, ◌<◌, ◌≤◌, List, [], ◌∷◌, ◌++◌, length, take, drop, map, refl, sym, ◌∙◌, ap, ap₂, arith}
use Rattle.std.specs.Prelude.{nat_lt, if◌then◌else◌, min, zip}
use Rattle.std.specs.Int.{bytes_high_first}
use Rattle.std.specs.List.{AllByRecursion, flat_map}
use Rattle.std.proofs.lemmas.Bool.Decides.{nat_tests}
use Rattle.std.proofs.lemmas.List.{length-map, length-take, drop-map}
use Rattle.roadnet.specs.declared.arcs.RoadArc.{RoadArc}
use Rattle.pages.specs.declared.content.Ends.{Ends}
use Rattle.pages.specs.Spelling.{number_of, word_of, ends_of, word_page, page_of, page_of_numbers}
use Rattle.storefile.specs.StoreFile.{part}
use Rattle.storefile.proofs.Opening.{part-map}
use Rattle.checkpoint.specs.Frozen.{numbers_of, with_number, with_numbers}

-- ---- a number, and its word

length_back : (o : Bool) (l : ℕ) → l < 2 ^ 31 → (l + (if o then 0 else 2 ^ 31)) % 2 ^ 31 ≡ l
length_back true l lt = omega (arith, lt)
length_back false l lt = omega (arith, lt)

flag_back : (o : Bool) (l : ℕ) → l < 2 ^ 31 → nat_lt (l + (if o then 0 else 2 ^ 31)) (2 ^ 31) ≡ o
flag_back true l lt = grind (arith, nat_tests)
flag_back false l lt = grind (arith, nat_tests)

arc_back : (arc : RoadArc) → arc.length < 2 ^ 31 → with_number arc (number_of (word_of arc)) ≡ arc
arc_back arc lt = ap₂ (λ (l : ℕ) (o : Bool). record arc { length = l; opened = o }) (length_back arc.opened arc.length lt) (flag_back arc.opened arc.length lt)

by_flag : (b : Bool) (n : ℕ) → nat_lt n (2 ^ 31) ≡ b → n < 2 ^ 32 → n % 2 ^ 31 + (if b then 0 else 2 ^ 31) ≡ n
by_flag true n is lt = let low : n < 2 ^ 31 = grind (arith, nat_tests) in omega (arith, low)
by_flag false n is lt = let high : 2 ^ 31 ≤ n = grind (arith, nat_tests) in omega (arith, high, lt)

number_back : (arc : RoadArc) (n : ℕ) → n < 2 ^ 32 → number_of (word_of (with_number arc n)) ≡ n
number_back arc n lt = by_flag (nat_lt n (2 ^ 31)) n refl lt

fits_by : (o : Bool) (l : ℕ) → l < 2 ^ 31 → l + (if o then 0 else 2 ^ 31) < 2 ^ 32
fits_by true l lt = omega (arith, lt)
fits_by false l lt = omega (arith, lt)

pub numbers_fit : (arcs : List RoadArc) → AllByRecursion (λ arc. arc.length < 2 ^ 31) arcs → AllByRecursion (λ n. n < 2 ^ 32) (numbers_of arcs)
numbers_fit [] h = tt
numbers_fit (arc ∷ arcs) h = (fits_by arc.opened arc.length h.0, numbers_fit arcs h.1)

-- ---- the arcs with numbers

pub arcs_back : (arcs : List RoadArc) → AllByRecursion (λ arc. arc.length < 2 ^ 31) arcs → with_numbers arcs (numbers_of arcs) ≡ arcs
arcs_back [] h = refl
arcs_back (arc ∷ arcs) h = ap₂ (λ (x : RoadArc) (xs : List RoadArc). x ∷ xs) (arc_back arc h.0) (arcs_back arcs h.1)

numbers_back : (arcs : List RoadArc) (numbers : List ℕ) → AllByRecursion (λ n. n < 2 ^ 32) numbers → numbers_of (with_numbers arcs numbers) ≡ take (length arcs) numbers
numbers_back [] numbers h = refl
numbers_back (arc ∷ arcs) [] h = refl
numbers_back (arc ∷ arcs) (n ∷ numbers) h = ap₂ (λ (x : ℕ) (xs : List ℕ). x ∷ xs) (number_back arc n h.0) (numbers_back arcs numbers h.1)

ends_stay : (arcs : List RoadArc) (numbers : List ℕ) → map ends_of (with_numbers arcs numbers) ≡ map ends_of (take (length numbers) arcs)
ends_stay [] [] = refl
ends_stay [] (n ∷ numbers) = refl
ends_stay (arc ∷ arcs) [] = refl
ends_stay (arc ∷ arcs) (n ∷ numbers) = ap (λ (xs : List Ends). ends_of arc ∷ xs) (ends_stay arcs numbers)

pub length-with_numbers : (arcs : List RoadArc) (numbers : List ℕ) → length (with_numbers arcs numbers) ≡ min (length arcs) (length numbers)
length-with_numbers arcs numbers = omega (arith, length-map (with_numbers arcs numbers) ends_of, ap length (ends_stay arcs numbers), length-map (take (length numbers) arcs) ends_of, length-take (length numbers) arcs)

-- An arc of these ends, with the length and the flag of a number.
abbrev arc_from : Ends → ℕ → RoadArc
arc_from e n = record { tail = e.tail; head = e.head; length = n % 2 ^ 31; opened = nat_lt n (2 ^ 31) }

by_ends : (arcs : List RoadArc) (numbers : List ℕ) → with_numbers arcs numbers ≡ map (λ p. arc_from p.0 p.1) (zip (map ends_of (take (length numbers) arcs)) numbers)
by_ends [] [] = refl
by_ends [] (n ∷ numbers) = refl
by_ends (arc ∷ arcs) [] = refl
by_ends (arc ∷ arcs) (n ∷ numbers) = ap (λ (xs : List RoadArc). with_number arc n ∷ xs) (by_ends arcs numbers)

-- The ends alone count.
pub same_by_ends : (arcs others : List RoadArc) (numbers : List ℕ) → map ends_of (take (length numbers) others) ≡ map ends_of (take (length numbers) arcs) → with_numbers others numbers ≡ with_numbers arcs numbers
same_by_ends arcs others numbers same = by_ends others numbers ∙ (ap (λ (es : List Ends). map (λ p. arc_from p.0 p.1) (zip es numbers)) same ∙ sym (by_ends arcs numbers))

-- ---- the pages

as_numbers : (f : ℕ → List ℕ) (arcs : List RoadArc) → flat_map (λ w. f (number_of w)) (map word_of arcs) ≡ flat_map f (numbers_of arcs)
as_numbers f [] = refl
as_numbers f (arc ∷ arcs) = ap (λ (xs : List ℕ). f (number_of (word_of arc)) ++ xs) (as_numbers f arcs)

pub words_of_numbers : (arcs : List RoadArc) (numbers : List ℕ) (i : ℕ) → AllByRecursion (λ n. n < 2 ^ 32) numbers
    → page_of_numbers (part 1023 i (take (length arcs) numbers)) ≡ word_page (map word_of (part 1023 i (with_numbers arcs numbers)))
words_of_numbers arcs numbers i h =
    ap (λ (ns : List ℕ). page_of_numbers (part 1023 i ns)) (sym (numbers_back arcs numbers h))
    ∙ (ap page_of_numbers (sym (part-map (λ (arc : RoadArc). number_of (word_of arc)) (1023 * i) 1023 (with_numbers arcs numbers)))
    ∙ ap page_of (sym (as_numbers (bytes_high_first 4) (part 1023 i (with_numbers arcs numbers)))))

pub ends_behind : (arcs : List RoadArc) (numbers : List ℕ) (first i : ℕ)
    → map ends_of (part 511 i (drop first (take (length numbers) arcs))) ≡ map ends_of (part 511 i (drop first (with_numbers arcs numbers)))
ends_behind arcs numbers first i =
    part-map ends_of (511 * i) 511 (drop first (take (length numbers) arcs))
    ∙ (ap (part 511 i) (sym (drop-map ends_of first (take (length numbers) arcs)) ∙ (ap (drop first) (sym (ends_stay arcs numbers)) ∙ drop-map ends_of first (with_numbers arcs numbers)))
    ∙ sym (part-map ends_of (511 * i) 511 (drop first (with_numbers arcs numbers))))
