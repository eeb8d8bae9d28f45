-- The text of a network gives it with each arc open.
use Rattle.std.proofs.Common.{◌≡◌, ◌∙◌, ℕ, ◌+◌, ◌-◌, ◌^◌, ◌<◌, ◌≤◌, false, ltb, List, [], ◌∷◌, ◌++◌, length, map, Some, None, Ok, refl, ap, arith, append_assoc, append-nil}
use Rattle.std.specs.Prelude.{is_none, decimal}
use Rattle.std.specs.List.{filter_map, AllByRecursion}
use Rattle.std.proofs.lemmas.Bool.{le-ltb, lt-leb}
use Rattle.std.proofs.lemmas.List.{length-append, length-map}
use Rattle.std.proofs.lemmas.List.Elements.{recursion_from_All}
use lib.Chars.{codes}
use Rattle.roadnet.specs.declared.arcs.RoadArc.{RoadArc}
use Rattle.roadnet.specs.Net.{Net, IsNetwork, IsArcAmong, most_nodes, most_arcs, longest_arc}
use Rattle.dimacs.specs.declared.numerals.numeral.Numeral.{Numeral}
use Rattle.dimacs.specs.declared.graphs.problem.Problem.{Problem}
use Rattle.dimacs.specs.Content.{arc_of_line, arc_of, network_of, content_of}
use Rattle.dimacs.specs.Faults.{Row, problem_of, announced, items_of, applies, code_of, first_fault, end_code}
use Rattle.dimacs.specs.Format.{gr}
use Rattle.dimacs.specs.Numerals.{kept}
use Rattle.dimacs.specs.Reading.{two_numerals, three_numerals, item_after, problem_after}
use Rattle.dimacs.proofs.Items.{kept_is, item_row, problem_kept, items_push, filter_map_push}
use Rattle.dimacs.proofs.NodeRows.{code_and_value}
use Rattle.dimacs.proofs.Problems.{problem_row}
use Rattle.printing.specs.declared.exports.Origin.{Origin}
use Rattle.printing.specs.Exports.{heading, counts_row, arc_row, opened_arc, all_open, network_rows}
use Rattle.printing.proofs.PrintedNumerals.{number_back}

abbrev pub number : ℕ → Numeral
number n = record { has_minus = false; size = n }

pub kept_number : (n : ℕ) → n < 2 ^ 63 → kept (number n) ≡ number n
kept_number n small = kept_is (number n) (le-ltb (2 ^ 63 - 1) n (omega (arith, small)))

abbrev numbers_of : RoadArc → Row
numbers_of arc = decimal arc.tail ∷ decimal arc.head ∷ decimal arc.length ∷ []

arc_said : (arc : RoadArc) → arc.tail < 2 ^ 64 → arc.head < 2 ^ 64 → arc.length < 2 ^ 64 → arc_of_line (numbers_of arc) ≡ opened_arc arc
arc_said arc t h w = rw (number_back arc.tail t, number_back arc.head h, number_back arc.length w) refl

three_read : (t h w : ℕ) → t < 2 ^ 63 → h < 2 ^ 63 → w < 2 ^ 63 → three_numerals (decimal t ∷ decimal h ∷ decimal w ∷ []) ≡ Some (number t, number h, number w)
three_read t h w tail head length =
    rw (number_back t (omega (arith, tail)), number_back h (omega (arith, head)), number_back w (omega (arith, length)))
    (rw (kept_number t tail, kept_number h head, kept_number w length) refl)

two_read : (n m : ℕ) → n < 2 ^ 63 → m < 2 ^ 63 → two_numerals (decimal n ∷ decimal m ∷ []) ≡ Some (number n, number m)
two_read n m nodes items =
    rw (number_back n (omega (arith, nodes)), number_back m (omega (arith, items))) (rw (kept_number n nodes, kept_number m items) refl)

arc_read : (p : Problem) (taken : ℕ) (arc : RoadArc) → p.nodes ≤ most_nodes → IsArcAmong p.nodes arc → taken < p.items
    → item_after (Some p) taken (three_numerals (numbers_of arc)) ≡ Ok (opened_arc arc)
arc_read p taken arc few is within =
    let t1 = is.tail_from in
    let t2 = is.tail_to in
    let h1 = is.head_from in
    let h2 = is.head_to in
    let w2 = is.length_to in
    rw (three_read arc.tail arc.head arc.length (omega (arith, t2, few)) (omega (arith, h2, few)) (omega (arith, w2)))
    (rw (
      le-ltb (2 ^ 63 - 1) arc.tail (omega (arith, t2, few)),
      le-ltb (2 ^ 63 - 1) arc.head (omega (arith, h2, few)),
      le-ltb (2 ^ 63 - 1) arc.length (omega (arith, w2)),
      le-ltb arc.tail 1 t1,
      le-ltb p.nodes arc.tail t2,
      le-ltb arc.head 1 h1,
      le-ltb p.nodes arc.head h2,
      le-ltb arc.length 0 (omega arith),
      le-ltb longest_arc arc.length w2,
      lt-leb p.items taken within,
    ) refl)

-- the lines so far announce these counts, and say these arcs
record Stands (earlier : List Row) (p : Problem) (done : List RoadArc) : Type 0 where
  problem : is_none (problem_of earlier) ≡ false
  counts : announced gr earlier ≡ p.nodes ∷ p.items ∷ []
  items : items_of gr earlier ≡ length done
  arcs : filter_map arc_of earlier ≡ done

module _ (p : Problem) (few : p.nodes ≤ most_nodes) where
  arc_stands : (earlier : List Row) (done : List RoadArc) (arc : RoadArc) → Stands earlier p done → IsArcAmong p.nodes arc → length done < p.items
      → (code_of gr earlier (arc_row arc) ≡ None) × Stands (earlier ++ arc_row arc ∷ []) p (done ++ opened_arc arc ∷ [])
  arc_stands earlier done arc so_far is within =
      let read = item_row earlier (Some p) (numbers_of arc) so_far.problem so_far.counts ∙ rw so_far.items (arc_read p (length done) arc few is within) in
      let right = code_and_value (code_of gr earlier (arc_row arc)) (arc_of_line (numbers_of arc)) (opened_arc arc) read in (
        right.0,
        record {
          problem = rw (problem_kept earlier (arc_row arc) refl) so_far.problem;
          counts = rw (problem_kept earlier (arc_row arc) refl) so_far.counts;
          items = items_push earlier (arc_row arc) ∙ rw (length-append, so_far.items) refl;
          arcs = filter_map_push arc_of earlier (arc_row arc) ∙ rw (so_far.arcs, right.1) refl;
        },
      )

  arcs_stand : (earlier : List Row) (done rest : List RoadArc) → Stands earlier p done → AllByRecursion (IsArcAmong p.nodes) rest → length done + length rest ≤ p.items
      → (first_fault (code_of gr) earlier (map arc_row rest) ≡ None) × Stands (earlier ++ map arc_row rest) p (done ++ map opened_arc rest)
  arcs_stand earlier done [] so_far all within = (refl, rw (append-nil earlier, append-nil done) so_far)
  arcs_stand earlier done (arc ∷ rest) so_far all within =
      let step = arc_stands earlier done arc so_far all.0 (omega (arith, within)) in
      let longer : length (done ++ opened_arc arc ∷ []) ≡ length done + 1 = length-append done (opened_arc arc ∷ []) in
      let later = arcs_stand (earlier ++ arc_row arc ∷ []) (done ++ opened_arc arc ∷ []) rest step.1 all.1 (omega (arith, longer, within)) in (
        rw step.0 later.0,
        rw (append_assoc earlier (arc_row arc ∷ []) (map arc_row rest), append_assoc done (opened_arc arc ∷ []) (map opened_arc rest)) at later.1,
      )

whole : (p : Problem) (lines : List Row) (arcs : List RoadArc) → first_fault (code_of gr) [] lines ≡ None → Stands lines p arcs → length arcs ≡ p.items
    → content_of lines ≡ Ok (record { nodes = p.nodes; arcs = arcs; landmarks = []; room = length arcs })
whole p lines arcs clean taken all =
    let enough : ltb (length arcs) p.items ≡ false = le-ltb _ _ (omega (arith, all)) in
    let ends : end_code gr lines ≡ None = rw (taken.problem, taken.counts, taken.items, enough) refl in
    let says : network_of lines ≡ record { nodes = p.nodes; arcs = arcs; landmarks = []; room = length arcs } = rw (taken.counts, taken.arcs) refl in
    rw (clean, ends) (ap Ok says)

-- ---- the first two lines
heading_stands : (room : ℕ) (origin : Origin) → code_of gr [] (heading (codes "c") room origin) ≡ None
unfolding code_of applies
heading_stands room origin = refl

counts_read : (nodes items : ℕ) → 1 ≤ nodes → nodes ≤ most_nodes → items ≤ most_arcs → problem_after false (codes "sp" ∷ decimal nodes ∷ decimal items ∷ []) ≡ Ok (record { nodes = nodes; items = items })
counts_read nodes items some few fit =
    rw (two_read nodes items (omega (arith, few)) (omega (arith, fit)))
    (rw (le-ltb (2 ^ 63 - 1) nodes (omega (arith, few)), le-ltb (2 ^ 63 - 1) items (omega (arith, fit)), le-ltb nodes 1 some, le-ltb items 0 (omega arith), le-ltb most_nodes nodes few, le-ltb most_arcs items fit) refl)

module _ (net : Net) (is : IsNetwork net) (origin : Origin) where
  abbrev first_rows : List Row
  first_rows = heading (codes "c") net.room origin ∷ counts_row net.nodes (length net.arcs) ∷ []

  abbrev counts : Problem
  counts = record { nodes = net.nodes; items = length net.arcs }

  many : length net.arcs ≤ most_arcs
  many = let a = is.arcs_to in let b = is.room_to in omega (arith, a, b)

  counts_stand : code_of gr (heading (codes "c") net.room origin ∷ []) (counts_row net.nodes (length net.arcs)) ≡ None
  counts_stand =
      (code_and_value _ _ counts (problem_row (heading (codes "c") net.room origin ∷ []) (codes "sp" ∷ decimal net.nodes ∷ decimal (length net.arcs) ∷ [])
      ∙ counts_read net.nodes (length net.arcs) is.some_node is.nodes_to many)).0

  begun : Stands first_rows counts []
  begun =
      let few = is.nodes_to in
      record {
        problem = refl;
        counts = rw (number_back net.nodes (omega (arith, few)), number_back (length net.arcs) (omega (arith, many))) refl;
        items = refl;
        arcs = refl;
      }

  pub network_back : content_of (network_rows net origin) ≡ Ok (all_open net)
  network_back =
      let all = arcs_stand counts is.nodes_to first_rows [] net.arcs begun (recursion_from_All (IsArcAmong net.nodes) net.arcs is.each_arc) (omega arith) in
      let clean : first_fault (code_of gr) [] (network_rows net origin) ≡ None = rw (heading_stands net.room origin, counts_stand) all.0 in
      let same = length-map net.arcs opened_arc in
      whole counts (network_rows net origin) (map opened_arc net.arcs) clean all.1 same ∙ ap (λ (room : ℕ). Ok (record { nodes = net.nodes; arcs = map opened_arc net.arcs; landmarks = []; room = room })) same
