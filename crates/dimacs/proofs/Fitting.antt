-- Of the nodes and arcs that right lines give a network can be made.
use Rattle.std.proofs.Common.{◌≡◌, ◌∙◌, inl, inr, ℕ, ◌≤◌, ◌+◌, Bool, true, false, cond, List, [], ◌∷◌, ◌++◌, length, drop, Option, Some, None, Result, Ok, Err, ltb, leb, refl, arith}
use Rattle.std.specs.Prelude.{is_some}
use Rattle.std.specs.Option.{ForSome}
use Rattle.std.specs.List.{starts_with}
use Rattle.std.specs.Str.{bytes_eq}
use Rattle.std.proofs.lemmas.Bool.{cases_Bool, or_parts, ltb-false}
use Rattle.std.proofs.lemmas.Bool.Decides.{nat_tests}
use Rattle.std.proofs.lemmas.List.{length-append}
use Rattle.std.proofs.lemmas.List.Folds.{list_any-append}
use lib.Chars.{codes}
use Rattle.roadnet.specs.declared.arcs.RoadArc.{RoadArc}
use Rattle.roadnet.specs.Net.{most_nodes, most_arcs, longest_arc}
use Rattle.roadnet.specs.Made.{is_node_among, is_node_count, is_long, is_stray}
use Rattle.dimacs.specs.declared.numerals.numeral.Numeral.{Numeral}
use Rattle.dimacs.specs.declared.graphs.problem.Problem.{Problem}
use Rattle.dimacs.specs.declared.fault.Code.TheVariants.{BadLine, SecondProblemLine, WrongKind, NumberRange, NodeRange, LengthRange, LineCount, TooLarge}
use Rattle.dimacs.specs.Faults.{Row, is_under, is_over}
use Rattle.dimacs.specs.Reading.{two_numerals, counted_problem, problem_of_numerals, problem_after, item_after}
use Rattle.dimacs.specs.Fits.{Fits}
use Rattle.dimacs.proofs.Items.{known}
use Rattle.dimacs.proofs.Problems.{cond_ok}

-- a number that is neither below the least nor above the most has a size between them
between : (least most : ℕ) (n : Numeral) → is_under least n ≡ false → is_over most n ≡ false → (least ≤ n.size) × (n.size ≤ most)
between least most n low high =
    elim (cases_Bool n.has_minus) [
      | inl minus ↦ let zero : n.size + least ≤ 0 = ltb-false _ _ (rw minus at low) in (omega arith, omega arith)
      | inr plain ↦ (ltb-false _ _ (rw plain at low), ltb-false _ _ (rw plain at high))
    ]

among : (nodes x : ℕ) → 1 ≤ x → x ≤ nodes → is_node_among nodes x ≡ true
among nodes x low high = grind (arith, nat_tests)

count_is : (nodes : ℕ) → 1 ≤ nodes → nodes ≤ most_nodes → is_node_count nodes ≡ true
count_is nodes low high = grind (arith, nat_tests)

room_left : (items taken : ℕ) → leb items taken ≡ false → taken + 1 ≤ items
room_left items taken e = grind (arith, nat_tests)

not_long : (n : ℕ) → n ≤ longest_arc → ltb longest_arc n ≡ false
not_long n most = grind (arith, nat_tests)

ok_is : {E X : Type 0} (x y : X) → ◌≡◌ {A = Result X E} (Ok x) (Ok y) → x ≡ y
ok_is x y e = cc

counts_fit : (a b : Numeral) (p : Problem) → problem_of_numerals a b ≡ Ok p → (is_node_count p.nodes ≡ true) × (p.items ≤ most_arcs)
counts_fit a b p e =
    let readable = cond_ok _ NumberRange _ p e in
    let least = cond_ok _ NumberRange _ p readable.1 in
    let most = cond_ok _ TooLarge _ p least.1 in
    let low = or_parts _ _ least.0 in
    let high = or_parts _ _ most.0 in
    let nodes = between 1 most_nodes a low.0 high.0 in
    let items = between 0 most_arcs b low.1 high.1 in
    let is = ok_is _ p most.1 in
    rw (← is) (count_is a.size nodes.0 nodes.1, items.1)

-- what a right problem line announces: it is the first, and its counts are a network's
pub first_problem : (has : Bool) (words : Row) (p : Problem) → problem_after has words ≡ Ok p → (has ≡ false) × (is_node_count p.nodes ≡ true) × (p.items ≤ most_arcs)
first_problem has words p e =
    elim (cases_Bool (starts_with bytes_eq words (codes "sp" ∷ []))) [
      | inl kind ↦
          let counted_is : counted_problem has (two_numerals (drop 1 words)) ≡ Ok p = rw kind at e in
          elim (known (two_numerals (drop 1 words))) [
            | inl none ↦ absurd (let wrong : Err BadLine ≡ Ok p = rw none at counted_is in cc)
            | inr (two, read) ↦
                let r = cond_ok has SecondProblemLine (problem_of_numerals two.0 two.1) p (rw read at counted_is) in
                let fit = counts_fit two.0 two.1 p r.1 in
                (r.0, fit.0, fit.1)
          ]
      | inr other ↦ absurd (let r = cond_ok has SecondProblemLine (Err WrongKind) p (rw other at e) in cc)
    ]

pub none_so_far : {X : Type 0} (o : Option X) → is_some o ≡ false → o ≡ None
none_so_far None e = refl
none_so_far (Some x) e = absurd cc

-- before the first item
pub fits_none : (has : Bool) (words : Row) (p : Problem) (arcs : List RoadArc) → problem_after has words ≡ Ok p → length arcs ≡ 0 → Fits p arcs
fits_none has words p [] e none =
    let first = first_problem has words p e in
    record { nodes = first.1; items = first.2; count = omega arith; no_long = refl; no_stray = refl }
fits_none has words p (arc ∷ arcs) e none = absurd (omega arith)

-- with one item more
pub fits_more : (p : Problem) (arcs : List RoadArc) (numbers : Option (Numeral × Numeral × Numeral)) (arc : RoadArc) → Fits p arcs → item_after (Some p) (length arcs) numbers ≡ Ok arc
    → Fits p (arcs ++ arc ∷ [])
fits_more p arcs None arc fits e = absurd cc
fits_more p arcs (Some numbers) arc fits e =
    let readable = cond_ok _ NumberRange _ arc e in
    let inside = cond_ok _ NodeRange _ arc readable.1 in
    let short = cond_ok _ LengthRange _ arc inside.1 in
    let room = cond_ok _ LineCount _ arc short.1 in
    let ends = or_parts _ _ inside.0 in
    let tails = or_parts _ _ ends.0 in
    let heads = or_parts _ _ ends.1 in
    let lengths = or_parts _ _ short.0 in
    let tail = between 1 p.nodes numbers.0 tails.0 tails.1 in
    let head = between 1 p.nodes numbers.1 heads.0 heads.1 in
    let length_is = between 0 longest_arc numbers.2 lengths.0 lengths.1 in
    let is : record { tail = numbers.0.size; head = numbers.1.size; length = numbers.2.size; opened = true } ≡ arc = ok_is _ arc room.1 in
    let long : is_long arc ≡ false = rw (← is) (not_long numbers.2.size length_is.1) in
    let stray : is_stray p.nodes arc ≡ false = rw (← is) (rw (among p.nodes numbers.0.size tail.0 tail.1, among p.nodes numbers.1.size head.0 head.1) refl) in
    let below : length arcs + 1 ≤ p.items = room_left p.items (length arcs) room.0 in
    record {
      nodes = fits.nodes;
      items = fits.items;
      count = rw length-append below;
      no_long = list_any-append is_long arcs (arc ∷ []) ∙ rw (fits.no_long, long) refl;
      no_stray = list_any-append (is_stray p.nodes) arcs (arc ∷ []) ∙ rw (fits.no_stray, stray) refl;
    }

pub some_is : {X : Type 0} (x y : X) → Some x ≡ Some y → x ≡ y
some_is x y e = cc

pub no_item_first : (o : Option Problem) (taken : ℕ) (numbers : Option (Numeral × Numeral × Numeral)) (arc : RoadArc) → item_after o taken numbers ≡ Ok arc → o ≡ None → ⊥
no_item_first None taken None arc e none = cc
no_item_first None taken (Some numbers) arc e none = cc
no_item_first (Some p) taken numbers arc e none = cc

-- after a push, which may want memory
pub fits_pushed : (o : Option Problem) (arcs new : List RoadArc) (numbers : Option (Numeral × Numeral × Numeral)) (arc : RoadArc) (pushed : Bool) → item_after o (length arcs) numbers ≡ Ok arc
    → new ≡ cond pushed (arcs ++ arc ∷ []) arcs → ForSome o (λ p. Fits p arcs) → ForSome o (λ p. Fits p new)
fits_pushed None arcs new numbers arc pushed e added fits p is = absurd cc
fits_pushed (Some q) arcs new numbers arc true e added fits p is = rw (added, ← some_is q p is) (fits_more q arcs numbers arc (fits q refl) e)
fits_pushed (Some q) arcs new numbers arc false e added fits p is = rw added (fits p is)
