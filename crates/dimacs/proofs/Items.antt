-- An item line read from left to right has the lowest code that applies to it.
use Rattle.std.proofs.Common.{◌≡◌, ℕ, ◌+◌, ◌-◌, ◌^◌, ◌≤◌, Bool, true, false, ◌||◌, cond, eqb, leb, List, [], ◌∷◌, ◌++◌, length, Option, Some, None, Result, Ok, Err, min, refl, sym, ap, subst, ◌∙◌, arith, inl, inr, ◌⊎◌}
use Rattle.std.specs.Prelude.{is_none, ⊤}
use Rattle.std.proofs.lemmas.Bool.{cases_Bool, ne_eqb, or_parts, ltb-false}
use Rattle.std.proofs.lemmas.Bool.Decides.{nat_tests}
use lib.Chars.{codes}
use Rattle.dimacs.specs.declared.numerals.numeral.Numeral.{Numeral}
use Rattle.dimacs.specs.declared.graphs.problem.Problem.{Problem}
use Rattle.roadnet.specs.declared.arcs.RoadArc.{RoadArc}
use Rattle.dimacs.specs.declared.fault.Code.{Code}
use Rattle.dimacs.specs.declared.fault.Code.TheVariants.{BadLine, NoProblemLine, SecondProblemLine, WrongKind, NumberRange, NodeRange, LengthRange, LineCount, TooLarge, Read, OutOfMemory, GroupSize, OpenGroup}
use Rattle.roadnet.specs.Net.{longest_arc}
use Rattle.dimacs.specs.Format.{Format, gr}
use Rattle.dimacs.specs.Numerals.{numeral, kept}
use Rattle.dimacs.specs.Faults.{Row, Judge, or_else, is_item, is_problem, is_malformed, is_unreadable, problem_of, announced, announced_items, announced_nodes_of, items_of, applies, line_codes, code_of}
use Rattle.dimacs.specs.Reading.{three_numerals, is_outside, arc_of_numerals, item_after}
use Rattle.dimacs.specs.Content.{arc_of_line, arc_of}
use Rattle.std.specs.List.{filter_map, cons_option, find, AllByRecursion}
use Rattle.std.proofs.lemmas.List.{length-append}
use Rattle.std.proofs.lemmas.List.Sums.{sum_by_push}
use Rattle.dimacs.specs.declared.graphs.gr_lines.GrLines.{GrLines}
use Rattle.dimacs.specs.Progress.{problem_counts, HasTaken}
use Rattle.dimacs.specs.Taking.{Takes, ByCode, ByMemory}

-- a value, unless there is a code
abbrev pub or_code : {X : Type 0} → Option Code → X → Result X Code
or_code None x = Ok x
or_code (Some code) x = Err code

pub or_code-cond : {X : Type 0} (b : Bool) (code : Code) (o : Option Code) (x : X) → or_code (cond b (Some code) o) x ≡ cond b (Err code) (or_code o x)
or_code-cond true code o x = refl
or_code-cond false code o x = refl

pub or-false : (b : Bool) → (b || false) ≡ b
or-false true = refl
or-false false = refl

-- a size that can be read is kept as it is
pub kept_is : (n : Numeral) → is_unreadable n ≡ false → kept n ≡ n
kept_is n e =
    let small : n.size ≤ 2 ^ 63 - 1 = ltb-false _ _ e in
    let same : min n.size (2 ^ 64 - 1) ≡ n.size = omega arith in
    ap (λ (size : ℕ). record n { size = size }) same

pub unreadable_kept : (n : Numeral) → is_unreadable (kept n) ≡ is_unreadable n
unreadable_kept n = grind (arith, nat_tests)

-- three fields that are numerals
pub record Three (numbers : Row) : Type 0 where
  pub tail : List ℕ
  pub head : List ℕ
  pub length : List ℕ
  pub fields : numbers ≡ tail ∷ head ∷ length ∷ []
  pub a : Numeral
  pub b : Numeral
  pub c : Numeral
  pub tail_is : numeral tail ≡ Some a
  pub head_is : numeral head ≡ Some b
  pub length_is : numeral length ≡ Some c

abbrev NotThree : Row → Type 0
NotThree numbers = (three_numerals numbers ≡ None) × (is_malformed 3 numbers ≡ true)

-- an option, and how it is known
pub known : {X : Type 0} (o : Option X) → (o ≡ None) ⊎ ((x : X) × (o ≡ Some x))
known None = inl refl
known (Some x) = inr (x, refl)

pub three_cases : (numbers : Row) → NotThree numbers ⊎ Three numbers
three_cases [] = inl (refl, refl)
three_cases (u ∷ []) =
    elim (known (numeral u)) [ inl e ↦ inl (rw e refl, refl) | inr (a, e) ↦ inl (rw e refl, refl) ]
three_cases (u ∷ v ∷ []) =
    elim (known (numeral u)) [
      | inl e ↦ inl (rw e refl, refl)
      | inr (a, e) ↦ elim (known (numeral v)) [ inl f ↦ inl (rw (e, f) refl, refl) | inr (b, f) ↦ inl (rw (e, f) refl, refl) ]
    ]
three_cases (u ∷ v ∷ w ∷ []) =
    elim (known (numeral u)) [
      | inl e ↦ inl (rw e refl, rw e refl)
      | inr (a, e) ↦ elim (known (numeral v)) [
        | inl f ↦ inl (rw (e, f) refl, rw (e, f) refl)
        | inr (b, f) ↦ elim (known (numeral w)) [
          | inl g ↦ inl (rw (e, f, g) refl, rw (e, f, g) refl)
          | inr (c, g) ↦ inr (record { tail = u; head = v; length = w; fields = refl; a = a; b = b; c = c; tail_is = e; head_is = f; length_is = g })
        ]
      ]
    ]
three_cases (u ∷ v ∷ w ∷ x ∷ more) =
    let long : eqb (length (u ∷ v ∷ w ∷ x ∷ more)) 3 ≡ false = ne_eqb _ _ (λ e. absurd (omega arith)) in
    let bad : is_malformed 3 (u ∷ v ∷ w ∷ x ∷ more) ≡ true = rw long refl in
    elim (known (numeral u)) [
      | inl e ↦ inl (rw e refl, bad)
      | inr (a, e) ↦ elim (known (numeral v)) [
        | inl f ↦ inl (rw (e, f) refl, bad)
        | inr (b, f) ↦ elim (known (numeral w)) [
          | inl g ↦ inl (rw (e, f, g) refl, bad)
          | inr (c, g) ↦ inl (rw (e, f, g) refl, bad)
        ]
      ]
    ]

-- the lowest code of an item line of three numerals
abbrev code_of_item : List Row → Numeral → Numeral → Numeral → Option Code
code_of_item earlier a b c =
    cond (is_none (problem_of earlier)) (Some NoProblemLine)
    (cond (is_unreadable a || (is_unreadable b || is_unreadable c)) (Some NumberRange)
    (cond (is_outside 1 (announced_nodes_of gr earlier) a || is_outside 1 (announced_nodes_of gr earlier) b) (Some NodeRange)
    (cond (is_outside 0 longest_arc c) (Some LengthRange)
    (cond (leb (announced_items gr earlier) (items_of gr earlier)) (Some LineCount) None))))

pub malformed_code : (earlier : List Row) (numbers : Row) → is_malformed 3 numbers ≡ true → code_of gr earlier (codes "a" ∷ numbers) ≡ Some BadLine
unfolding code_of applies
malformed_code earlier numbers e = rw e refl

code_of_three : (earlier : List Row) (u v w : List ℕ) (a b c : Numeral) → numeral u ≡ Some a → numeral v ≡ Some b → numeral w ≡ Some c
    → code_of gr earlier (codes "a" ∷ u ∷ v ∷ w ∷ []) ≡ code_of_item earlier a b c
unfolding code_of applies
code_of_three earlier u v w a b c e f g = rw (e, f, g) (simp or-false)

-- reading gives the code, or the arc
abbrev RightItem : List Row → Option Problem → Row → Type 0
RightItem earlier p numbers = or_code (code_of gr earlier (codes "a" ∷ numbers)) (arc_of_line numbers) ≡ item_after p (items_of gr earlier) (three_numerals numbers)

same_arc : (p : Problem) (taken : ℕ) (a b c x y z : Numeral) → a ≡ x → b ≡ y → c ≡ z → arc_of_numerals p taken a b c ≡ arc_of_numerals p taken x y z
same_arc p taken a b c x y z e f g = rw (e, f, g) refl

item_of_numerals : (earlier : List Row) (p : Option Problem) (u v w : List ℕ) (a b c : Numeral) → numeral u ≡ Some a → numeral v ≡ Some b → numeral w ≡ Some c
    → is_none (problem_of earlier) ≡ is_none p → announced gr earlier ≡ problem_counts p → RightItem earlier p (u ∷ v ∷ w ∷ [])
item_of_numerals earlier None u v w a b c e f g none counts =
    let read : three_numerals (u ∷ v ∷ w ∷ []) ≡ Some (kept a, kept b, kept c) = rw (e, f, g) refl in
    rw (code_of_three earlier u v w a b c e f g, none, read) refl
item_of_numerals earlier (Some p) u v w a b c e f g some counts =
    let read : three_numerals (u ∷ v ∷ w ∷ []) ≡ Some (kept a, kept b, kept c) = rw (e, f, g) refl in
    let arc : arc_of_line (u ∷ v ∷ w ∷ []) ≡ record { tail = a.size; head = b.size; length = c.size; opened = true } = rw (e, f, g) refl in
    let nodes : announced_nodes_of gr earlier ≡ p.nodes = rw counts refl in
    let items : announced_items gr earlier ≡ p.items = rw counts refl in
    rw (code_of_three earlier u v w a b c e f g, read, arc) (elim (cases_Bool (is_unreadable a || (is_unreadable b || is_unreadable c))) [
      | inl big ↦ rw (some, unreadable_kept a, unreadable_kept b, unreadable_kept c, big) refl
      | inr small ↦
          let parts = or_parts _ _ small in
          let others = or_parts _ _ parts.1 in
          let plain : or_code (code_of_item earlier a b c) (record { tail = a.size; head = b.size; length = c.size; opened = true }) ≡ arc_of_numerals p (items_of gr earlier) a b c
          = rw (some, nodes, items) (simp or_code-cond) in
          plain ∙ same_arc p (items_of gr earlier) a b c (kept a) (kept b) (kept c) (sym (kept_is a parts.0)) (sym (kept_is b others.0)) (sym (kept_is c others.1))
    ])

pub item_row : (earlier : List Row) (p : Option Problem) (numbers : Row) → is_none (problem_of earlier) ≡ is_none p → announced gr earlier ≡ problem_counts p → RightItem earlier p numbers
item_row earlier p numbers none counts =
    elim (three_cases numbers) [
      | inl bad ↦ rw (malformed_code earlier numbers bad.1, bad.0) refl
      | inr three ↦ rw three.fields (item_of_numerals earlier p three.tail three.head three.length three.a three.b three.c three.tail_is three.head_is three.length_is none counts)
    ]

-- The lines that a reader has taken, and one more.

cons_option-append : {Y : Type 0} (o : Option Y) (front back : List Y) → cons_option o (front ++ back) ≡ cons_option o front ++ back
cons_option-append None front back = refl
cons_option-append (Some z) front back = refl

pub filter_map_push : {X Y : Type 0} (h : X → Option Y) (xs : List X) (x : X) → filter_map h (xs ++ x ∷ []) ≡ filter_map h xs ++ cons_option (h x) []
filter_map_push h [] x = refl
filter_map_push h (y ∷ ys) x = rw (filter_map_push h ys x) (cons_option-append (h y) (filter_map h ys) (cons_option (h x) []))

or_else-cond : {X : Type 0} (b : Bool) (y : X) (found other : Option X) → cond b (Some y) (or_else found other) ≡ or_else (cond b (Some y) found) other
or_else-cond true y found other = refl
or_else-cond false y found other = refl

pub find_push : {X : Type 0} (test : X → Bool) (xs : List X) (x : X) → find test (xs ++ x ∷ []) ≡ or_else (find test xs) (cond (test x) (Some x) None)
find_push test [] x = refl
find_push test (y ∷ ys) x = rw (find_push test ys x) (or_else-cond (test y) y (find test ys) (cond (test x) (Some x) None))

-- a line that is no problem line leaves the problem line as it was
pub problem_kept : (earlier : List Row) (row : Row) → is_problem row ≡ false → problem_of (earlier ++ row ∷ []) ≡ problem_of earlier
problem_kept earlier row e = find_push is_problem earlier row ∙ rw e (nothing (problem_of earlier))
  where
    nothing : (o : Option Row) → or_else o None ≡ o
    nothing None = refl
    nothing (Some x) = refl

pub announced_kept : (earlier : List Row) (row : Row) → is_problem row ≡ false → announced gr (earlier ++ row ∷ []) ≡ announced gr earlier
announced_kept earlier row e = rw (problem_kept earlier row e) refl

pub items_push : (earlier : List Row) (row : Row) → items_of gr (earlier ++ row ∷ []) ≡ items_of gr earlier + cond (is_item gr row) 1 0
items_push earlier row = sum_by_push (λ x. cond (is_item gr x) 1 0) earlier row

right_item : (earlier : List Row) (numbers : Row) (arc : RoadArc) (old : GrLines) → HasTaken earlier old
    → item_after old.problem (length old.arcs.items) (three_numerals numbers) ≡ Ok arc → (code_of gr earlier (codes "a" ∷ numbers) ≡ None) × (arc_of_line numbers ≡ arc)
right_item earlier numbers arc old taken e =
    let read : or_code (code_of gr earlier (codes "a" ∷ numbers)) (arc_of_line numbers) ≡ Ok arc = item_row earlier old.problem numbers taken.problem taken.counts ∙ rw taken.items e in
    from_code (code_of gr earlier (codes "a" ∷ numbers)) (arc_of_line numbers) arc read
  where
    from_code : (o : Option Code) (x arc : RoadArc) → or_code o x ≡ Ok arc → (o ≡ None) × (x ≡ arc)
    from_code None x arc e = (refl, cc)
    from_code (Some code) x arc e = absurd cc

pub item_stands : (earlier : List Row) (numbers : Row) (arc : RoadArc) (old : GrLines) → HasTaken earlier old
    → item_after old.problem (length old.arcs.items) (three_numerals numbers) ≡ Ok arc → code_of gr earlier (codes "a" ∷ numbers) ≡ None
item_stands earlier numbers arc old taken e = (right_item earlier numbers arc old taken e).0

pub takes_item : (earlier : List Row) (numbers : Row) (arc : RoadArc) (old new : GrLines) → HasTaken earlier old
    → item_after old.problem (length old.arcs.items) (three_numerals numbers) ≡ Ok arc → new.problem ≡ old.problem → new.arcs.items ≡ old.arcs.items ++ arc ∷ []
    → Takes (code_of gr) HasTaken earlier (codes "a" ∷ numbers) new (Ok tt)
takes_item earlier numbers arc old new taken e problem arcs =
    let right = right_item earlier numbers arc old taken e in (
      right.0,
      record {
        problem = rw (problem_kept earlier (codes "a" ∷ numbers) refl, problem) taken.problem;
        counts = rw (announced_kept earlier (codes "a" ∷ numbers) refl, problem) taken.counts;
        items = items_push earlier (codes "a" ∷ numbers) ∙ rw (arcs, length-append, taken.items) refl;
        arcs = filter_map_push arc_of earlier (codes "a" ∷ numbers) ∙ rw (arcs, taken.arcs, right.1) refl;
      },
    )

pub item_fault : (earlier : List Row) (numbers : Row) (code : Code) (old : GrLines) → HasTaken earlier old
    → item_after old.problem (length old.arcs.items) (three_numerals numbers) ≡ Err code → code_of gr earlier (codes "a" ∷ numbers) ≡ Some code
item_fault earlier numbers code old taken e =
    let read : or_code (code_of gr earlier (codes "a" ∷ numbers)) (arc_of_line numbers) ≡ Err code = item_row earlier old.problem numbers taken.problem taken.counts ∙ rw taken.items e in
    from_code (code_of gr earlier (codes "a" ∷ numbers)) (arc_of_line numbers) code read
  where
    from_code : (o : Option Code) (x : RoadArc) (code : Code) → or_code o x ≡ Err code → o ≡ Some code
    from_code None x code e = absurd cc
    from_code (Some found) x code e = cc

-- A fact that a code means.
pub by_code_of : {P P' Q Q' : Type 0} (F' : Type 0) (code : Code) → ByMemory code P Q → (P → P') → (Q → Q') → ByCode code P' F' Q'
by_code_of F' BadLine m f g = f m
by_code_of F' NoProblemLine m f g = f m
by_code_of F' SecondProblemLine m f g = f m
by_code_of F' WrongKind m f g = f m
by_code_of F' NumberRange m f g = f m
by_code_of F' NodeRange m f g = f m
by_code_of F' LengthRange m f g = f m
by_code_of F' LineCount m f g = f m
by_code_of F' TooLarge m f g = f m
by_code_of F' Read m f g = absurd m
by_code_of F' OutOfMemory m f g = g m
by_code_of F' GroupSize m f g = f m
by_code_of F' OpenGroup m f g = f m

pub by_memory_of : {P P' Q Q' : Type 0} (code : Code) → ByMemory code P Q → (P → P') → (Q → Q') → ByMemory code P' Q'
by_memory_of code m f g = by_code_of ⊥ code m f g

-- A code of a table of faults: of no failed read, and not of want of memory.
abbrev pub IsOfTable : Code → Type 0
IsOfTable code = ByMemory code ⊤ ⊥

either_of_table : (b : Bool) (c : Code) (found : Option Code) (code : Code) → IsOfTable c → (found ≡ Some code → IsOfTable code) → cond b (Some c) found ≡ Some code → IsOfTable code
either_of_table true c found code here later e = let same : c ≡ code = cc in subst IsOfTable same here
either_of_table false c found code here later e = later e

pub found_of_table : (test : Code → Bool) (codes : List Code) (code : Code) → AllByRecursion IsOfTable codes → find test codes ≡ Some code → IsOfTable code
found_of_table test [] code all e = absurd cc
found_of_table test (c ∷ cs) code all e = either_of_table (test c) c (find test cs) code all.0 (λ later. found_of_table test cs code all.1 later) e

pub told : (judge : Judge) (earlier : List Row) (row : Row) (code : Code) → IsOfTable code → judge earlier row ≡ Some code → ByMemory code (judge earlier row ≡ Some code) (judge earlier row ≡ None)
told judge earlier row code is found = by_memory_of code is (λ _. found) (λ never. absurd never)

pub told_of_table : (f : Format) (earlier : List Row) (row : Row) (code : Code) → code_of f earlier row ≡ Some code → ByMemory code (code_of f earlier row ≡ Some code) (code_of f earlier row ≡ None)
unfolding code_of
told_of_table f earlier row code e =
    told (code_of f) earlier row code (found_of_table (applies f earlier row) line_codes code (tt, (tt, (tt, (tt, (tt, (tt, (tt, (tt, (tt, tt))))))))) e) e
