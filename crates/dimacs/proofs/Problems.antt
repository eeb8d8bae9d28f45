-- A problem line read from left to right has the lowest code that applies to it.
use Rattle.std.proofs.Common.{◌≡◌, ℕ, Bool, true, false, not, ◌||◌, cond, eqb, List, [], ◌∷◌, ◌++◌, length, drop, Option, Some, None, Result, Ok, Err, map, refl, sym, ap, ◌∙◌, arith, inl, inr, ◌⊎◌}
use Rattle.std.specs.Prelude.{is_none, is_some}
use Rattle.std.specs.Str.{bytes_eq}
use Rattle.std.proofs.lemmas.Bool.{cases_Bool, ne_eqb, or_parts}
use lib.Chars.{codes}
use Rattle.roadnet.specs.Net.{most_nodes, most_arcs}
use Rattle.dimacs.specs.declared.numerals.numeral.Numeral.{Numeral}
use Rattle.dimacs.specs.declared.graphs.problem.Problem.{Problem}
use Rattle.dimacs.specs.declared.graphs.gr_lines.GrLines.{GrLines}
use Rattle.dimacs.specs.declared.fault.Code.{Code}
use Rattle.dimacs.specs.declared.fault.Code.TheVariants.{BadLine, SecondProblemLine, WrongKind, NumberRange, TooLarge}
use Rattle.dimacs.specs.Format.{gr}
use Rattle.dimacs.specs.Numerals.{numeral, kept}
use Rattle.dimacs.specs.Faults.{Row, is_malformed, is_unreadable, is_under, is_over, problem_of, size_of, is_problem, applies, code_of}
use Rattle.dimacs.specs.Reading.{two_numerals, counted_problem, problem_of_numerals, problem_after}
use Rattle.dimacs.specs.Content.{arc_of}
use Rattle.dimacs.specs.Progress.{HasTaken}
use Rattle.dimacs.specs.Taking.{Takes}
use Rattle.dimacs.proofs.Items.{known, or_code, or_code-cond, or-false, kept_is, unreadable_kept, filter_map_push, find_push, items_push}
use Rattle.std.proofs.lemmas.List.{append-nil}

-- two fields that are numerals
pub record Two (numbers : Row) : Type 0 where
  pub nodes : List ℕ
  pub items : List ℕ
  pub fields : numbers ≡ nodes ∷ items ∷ []
  pub a : Numeral
  pub b : Numeral
  pub nodes_is : numeral nodes ≡ Some a
  pub items_is : numeral items ≡ Some b

abbrev NotTwo : Row → Type 0
NotTwo numbers = (two_numerals numbers ≡ None) × (is_malformed 2 numbers ≡ true)

pub two_cases : (numbers : Row) → NotTwo numbers ⊎ Two numbers
two_cases [] = inl (refl, refl)
two_cases (u ∷ []) =
    elim (known (numeral u)) [ inl e ↦ inl (rw e refl, refl) | inr (a, e) ↦ inl (rw e refl, refl) ]
two_cases (u ∷ v ∷ []) =
    elim (known (numeral u)) [
      | inl e ↦ inl (rw e refl, rw e refl)
      | inr (a, e) ↦ elim (known (numeral v)) [
        | inl f ↦ inl (rw (e, f) refl, rw (e, f) refl)
        | inr (b, f) ↦ inr (record { nodes = u; items = v; fields = refl; a = a; b = b; nodes_is = e; items_is = f })
      ]
    ]
two_cases (u ∷ v ∷ x ∷ more) =
    let long : eqb (length (u ∷ v ∷ x ∷ more)) 2 ≡ false = ne_eqb _ _ (λ e. absurd (omega arith)) in
    let bad : is_malformed 2 (u ∷ v ∷ x ∷ more) ≡ true = rw long refl in
    elim (known (numeral u)) [
      | inl e ↦ inl (rw e refl, bad)
      | inr (a, e) ↦ elim (known (numeral v)) [ inl f ↦ inl (rw (e, f) refl, bad) | inr (b, f) ↦ inl (rw (e, f) refl, bad) ]
    ]

-- the sizes of the counts
abbrev pub problem_from : Row → Problem
problem_from [] = record { nodes = 0; items = 0 }
problem_from (u ∷ []) = record { nodes = size_of u; items = 0 }
problem_from (u ∷ v ∷ more) = record { nodes = size_of u; items = size_of v }

abbrev has_problem : List Row → Bool
has_problem earlier = not (is_none (problem_of earlier))

abbrev RightProblem : List Row → Row → Type 0
RightProblem earlier words = or_code (code_of gr earlier (codes "p" ∷ words)) (problem_from (drop 1 words)) ≡ problem_after (has_problem earlier) words

-- without the kind word
other_kind : (earlier : List Row) → or_code (cond (has_problem earlier) (Some SecondProblemLine) (Some WrongKind)) (problem_from []) ≡ cond (has_problem earlier) (Err SecondProblemLine) (Err WrongKind)
other_kind earlier = or_code-cond (has_problem earlier) SecondProblemLine (Some WrongKind) (problem_from [])

cond_or : {X : Type 0} (a b : Bool) (x y : X) → cond (a || b) x y ≡ cond a x (cond b x y)
cond_or true b x y = refl
cond_or false b x y = refl

-- the lowest code of a problem line of two numerals
abbrev code_of_counts : List Row → Numeral → Numeral → Option Code
code_of_counts earlier a b =
    cond (has_problem earlier) (Some SecondProblemLine)
    (cond (is_unreadable a || is_unreadable b) (Some NumberRange)
    (cond (is_under 1 a || is_under 0 b) (Some NumberRange)
    (cond (is_over most_nodes a || is_over most_arcs b) (Some TooLarge) None)))

same_problem : (a b x y : Numeral) → a ≡ x → b ≡ y → problem_of_numerals a b ≡ problem_of_numerals x y
same_problem a b x y e f = rw (e, f) refl

code_of_two : (earlier : List Row) (first u v : List ℕ) (a b : Numeral) → bytes_eq (codes "sp") first ≡ true → numeral u ≡ Some a → numeral v ≡ Some b
    → code_of gr earlier (codes "p" ∷ first ∷ u ∷ v ∷ []) ≡ code_of_counts earlier a b
unfolding code_of applies
code_of_two earlier first u v a b k e f = rw (k, e, f) (simp (or-false, cond_or))

malformed_counts : (earlier : List Row) (first : List ℕ) (counts : Row) → bytes_eq (codes "sp") first ≡ true → is_malformed 2 counts ≡ true → code_of gr earlier (codes "p" ∷ first ∷ counts) ≡ Some BadLine
unfolding code_of applies
malformed_counts earlier first counts k e = rw (k, e) refl

no_kind_at_all : (earlier : List Row) → code_of gr earlier (codes "p" ∷ []) ≡ cond (has_problem earlier) (Some SecondProblemLine) (Some WrongKind)
unfolding code_of applies
no_kind_at_all earlier = refl

no_kind : (earlier : List Row) (first : List ℕ) (counts : Row) → bytes_eq (codes "sp") first ≡ false → code_of gr earlier (codes "p" ∷ first ∷ counts) ≡ cond (has_problem earlier) (Some SecondProblemLine) (Some WrongKind)
unfolding code_of applies
no_kind earlier first counts k = rw k refl

counts_row : (earlier : List Row) (first : List ℕ) (counts : Row) → bytes_eq (codes "sp") first ≡ true
    → or_code (code_of gr earlier (codes "p" ∷ first ∷ counts)) (problem_from counts) ≡ counted_problem (has_problem earlier) (two_numerals counts)
counts_row earlier first counts k =
    elim (two_cases counts) [
      | inl bad ↦ rw (malformed_counts earlier first counts k bad.1, bad.0) refl
      | inr two ↦
          let read : two_numerals (two.nodes ∷ two.items ∷ []) ≡ Some (kept two.a, kept two.b) = rw (two.nodes_is, two.items_is) refl in
          let from : problem_from (two.nodes ∷ two.items ∷ []) ≡ record { nodes = two.a.size; items = two.b.size } = rw (two.nodes_is, two.items_is) refl in
          rw (two.fields, code_of_two earlier first two.nodes two.items two.a two.b k two.nodes_is two.items_is, read, from) (elim (cases_Bool (is_unreadable two.a || is_unreadable two.b)) [
            | inl big ↦ rw (unreadable_kept two.a, unreadable_kept two.b, big) (or_code-cond (has_problem earlier) SecondProblemLine (Some NumberRange) (record { nodes = two.a.size; items = two.b.size }))
            | inr small ↦
                let parts = or_parts _ _ small in
                let plain : or_code (code_of_counts earlier two.a two.b) (record { nodes = two.a.size; items = two.b.size }) ≡ cond (has_problem earlier) (Err SecondProblemLine) (problem_of_numerals two.a two.b) = simp or_code-cond in
                plain ∙ ap (λ (r : Result Problem Code). cond (has_problem earlier) (Err SecondProblemLine) r) (same_problem two.a two.b (kept two.a) (kept two.b) (sym (kept_is two.a parts.0)) (sym (kept_is two.b parts.1)))
          ])
    ]

pub problem_row : (earlier : List Row) (words : Row) → RightProblem earlier words
problem_row earlier [] = rw (no_kind_at_all earlier) (other_kind earlier)
problem_row earlier (first ∷ counts) =
    elim (cases_Bool (bytes_eq (codes "sp") first)) [
      | inl kind ↦ counts_row earlier first counts kind ∙ rw kind refl
      | inr other ↦ rw (no_kind earlier first counts other, other) (or_code-cond (has_problem earlier) SecondProblemLine (Some WrongKind) (problem_from counts))
    ]

pub cond_ok : {E X : Type 0} (b : Bool) (e : E) (r : Result X E) (x : X) → cond b (Err e) r ≡ Ok x → (b ≡ false) × (r ≡ Ok x)
cond_ok true e r x h = absurd cc
cond_ok false e r x h = (refl, h)

-- what a problem line without a fault tells of the earlier lines and of its fields
pub record Announces (has : Bool) (words : Row) : Type 0 where
  pub first : has ≡ false
  pub counts : map size_of (drop 1 words) ≡ (problem_from (drop 1 words)).nodes ∷ (problem_from (drop 1 words)).items ∷ []

announces : (has : Bool) (words : Row) (p : Problem) → problem_after has words ≡ Ok p → Announces has words
announces has [] p e = absurd (let r = cond_ok has SecondProblemLine (Err WrongKind) p e in cc)
announces has (first ∷ counts) p e =
    elim (cases_Bool (bytes_eq (codes "sp") first)) [
      | inl kind ↦
          let counted_is : counted_problem has (two_numerals counts) ≡ Ok p = rw kind at e in
          elim (two_cases counts) [
            | inl bad ↦ absurd (let wrong : Err BadLine ≡ Ok p = rw bad.0 at counted_is in cc)
            | inr two ↦
                let read : two_numerals counts ≡ Some (kept two.a, kept two.b) = rw (two.fields, two.nodes_is, two.items_is) refl in
                let r = cond_ok has SecondProblemLine (problem_of_numerals (kept two.a) (kept two.b)) p (rw read at counted_is) in
                record { first = r.0; counts = rw two.fields refl }
          ]
      | inr other ↦ absurd (let r = cond_ok has SecondProblemLine (Err WrongKind) p (rw other at e) in cc)
    ]

not-is_none : {X : Type 0} (o : Option X) → not (is_none o) ≡ is_some o
not-is_none None = refl
not-is_none (Some x) = refl

none_is : {X : Type 0} (o : Option X) → not (is_none o) ≡ false → o ≡ None
none_is None e = refl
none_is (Some x) e = absurd cc

has_is : (earlier : List Row) (old : GrLines) → HasTaken earlier old → has_problem earlier ≡ is_some old.problem
has_is earlier old taken = ap not taken.problem ∙ not-is_none old.problem

pub takes_problem : (earlier : List Row) (words : Row) (p : Problem) (old new : GrLines) → HasTaken earlier old
    → problem_after (is_some old.problem) words ≡ Ok p → new.problem ≡ Some p → new.arcs.items ≡ old.arcs.items
    → Takes (code_of gr) HasTaken earlier (codes "p" ∷ words) new (Ok tt)
takes_problem earlier words p old new taken e problem arcs =
    let ok : problem_after (has_problem earlier) words ≡ Ok p = rw (has_is earlier old taken) e in
    let right = from_code (code_of gr earlier (codes "p" ∷ words)) (problem_from (drop 1 words)) p (problem_row earlier words ∙ ok) in
    let told = announces (has_problem earlier) words p ok in
    let first : problem_of earlier ≡ None = none_is (problem_of earlier) told.first in
    let found : problem_of (earlier ++ (codes "p" ∷ words) ∷ []) ≡ Some (codes "p" ∷ words) = find_push is_problem earlier (codes "p" ∷ words) ∙ rw first refl in (
      right.0,
      record {
        problem = rw (found, problem) refl;
        counts = rw (found, problem, told.counts, right.1) refl;
        items = items_push earlier (codes "p" ∷ words) ∙ rw (arcs, taken.items) (omega arith);
        arcs = filter_map_push arc_of earlier (codes "p" ∷ words) ∙ rw (arcs, taken.arcs) (append-nil old.arcs.items);
      },
    )
  where
    from_code : (o : Option Code) (x p : Problem) → or_code o x ≡ Ok p → (o ≡ None) × (x ≡ p)
    from_code None x p e = (refl, cc)
    from_code (Some code) x p e = absurd cc

pub problem_fault : (earlier : List Row) (words : Row) (code : Code) (old : GrLines) → HasTaken earlier old
    → problem_after (is_some old.problem) words ≡ Err code → code_of gr earlier (codes "p" ∷ words) ≡ Some code
problem_fault earlier words code old taken e =
    let err : problem_after (has_problem earlier) words ≡ Err code = rw (has_is earlier old taken) e in
    from_code (code_of gr earlier (codes "p" ∷ words)) (problem_from (drop 1 words)) code (problem_row earlier words ∙ err)
  where
    from_code : (o : Option Code) (x : Problem) (code : Code) → or_code o x ≡ Err code → o ≡ Some code
    from_code None x code e = absurd cc
    from_code (Some found) x code e = cc
