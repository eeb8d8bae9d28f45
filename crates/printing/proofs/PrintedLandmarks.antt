-- The text of landmarks gives them.
use Rattle.std.proofs.Common.{◌≡◌, ◌∙◌, ℕ, ◌+◌, ◌-◌, ◌^◌, ◌≤◌, false, cond, leb, List, [], ◌∷◌, ◌++◌, length, map, Option, Some, None, Ok, refl, ap, arith, append_assoc, append-nil}
use Rattle.std.specs.Prelude.{is_none, decimal}
use Rattle.std.specs.List.{AllByRecursion}
use Rattle.std.proofs.lemmas.Bool.{le-ltb}
use Rattle.std.proofs.lemmas.List.{length-append}
use Rattle.std.proofs.lemmas.List.Elements.{recursion_from_All}
use lib.Chars.{codes}
use Rattle.roadnet.specs.Members.{set_of}
use Rattle.roadnet.specs.Net.{Net, IsNetwork, most_nodes}
use Rattle.dimacs.specs.declared.numerals.numeral.Numeral.{Numeral}
use Rattle.dimacs.specs.declared.fault.Code.TheVariants.{LineCount, NoProblemLine}
use Rattle.dimacs.specs.Faults.{Row, problem_of, announced_items, items_of, is_unreadable, applies, code_of, first_fault}
use Rattle.dimacs.specs.Format.{Node, ss}
use Rattle.dimacs.specs.Landmarks.{ss_text, node_from}
use Rattle.dimacs.specs.Listed.{HasItems, ReadsItem}
use Rattle.dimacs.specs.ListedReading.{count_after}
use Rattle.dimacs.specs.Numerals.{numeral}
use Rattle.dimacs.specs.Reading.{is_outside, one_numeral}
use Rattle.dimacs.specs.Texts.{content_by}
use Rattle.dimacs.proofs.NodeRows.{takes_ignored, takes_problem, takes_item, enough}
use Rattle.dimacs.proofs.Sets.{set_of_ascending}
use Rattle.printing.specs.declared.exports.Origin.{Origin}
use Rattle.printing.specs.Exports.{heading, count_row, landmark_row, landmark_rows}
use Rattle.printing.proofs.PrintedNumerals.{number_back}
use Rattle.printing.proofs.PrintedNetwork.{number, kept_number}

abbrev IsNodeOf : ℕ → ℕ → Type 0
IsNodeOf n x = (1 ≤ x) × (x ≤ n)

code_of_node : (n : ℕ) (earlier : List Row) (u : List ℕ) (a : Numeral) → numeral u ≡ Some a → is_unreadable a ≡ false → is_outside 1 n a ≡ false
    → code_of (ss n) earlier (codes "s" ∷ u ∷ []) ≡ cond (is_none (problem_of earlier)) (Some NoProblemLine) (cond (leb (announced_items (ss n) earlier) (items_of (ss n) earlier)) (Some LineCount) None)
unfolding code_of applies
code_of_node n earlier u a e small inside = rw (e, small, inside) refl

node_said : (n x : ℕ) → n ≤ most_nodes → IsNodeOf n x → ReadsItem (ss n) node_from (decimal x ∷ []) (Some (Ok x))
node_said n x few is =
    let low = is.0 in
    let high = is.1 in
    let read = number_back x (omega (arith, high, few)) in
    let inside : is_outside 1 n (number x) ≡ false = rw (le-ltb x 1 low, le-ltb n x high) refl in
    (rw read refl, λ earlier. code_of_node n earlier (decimal x) (number x) read (le-ltb (2 ^ 63 - 1) x (omega (arith, high, few))) inside)

module _ (n : ℕ) (few : n ≤ most_nodes) where
  abbrev Stands : List Row → Option ℕ → List ℕ → Type 0
  Stands earlier count done = HasItems (ss n) node_from earlier n count done

  nodes_stand : (count : ℕ) (earlier : List Row) (done rest : List ℕ) → Stands earlier (Some count) done → AllByRecursion (IsNodeOf n) rest → length done + length rest ≤ count
      → (first_fault (code_of (ss n)) earlier (map landmark_row rest) ≡ None) × Stands (earlier ++ map landmark_row rest) (Some count) (done ++ rest)
  nodes_stand count earlier done [] so_far all within = (refl, rw (append-nil earlier, append-nil done) so_far)
  nodes_stand count earlier done (x ∷ rest) so_far all within =
      let step = takes_item (codes "ss") 115 (Node ∷ []) n refl refl node_from earlier n (decimal x ∷ []) x count (Some count) done so_far refl (node_said n x few all.0) (done ++ x ∷ []) (omega (arith, within)) refl in
      let longer : length (done ++ x ∷ []) ≡ length done + 1 = length-append done (x ∷ []) in
      let later = nodes_stand count (earlier ++ landmark_row x ∷ []) (done ++ x ∷ []) rest step.1 all.1 (omega (arith, longer, within)) in (
        rw step.0 later.0,
        rw (append_assoc earlier (landmark_row x ∷ []) (map landmark_row rest), append_assoc done (x ∷ []) rest) at later.1,
      )

  count_read : (k : ℕ) → k ≤ 2 ^ 24 → count_after (codes "ss") false (codes "aux" ∷ codes "sp" ∷ codes "ss" ∷ decimal k ∷ []) ≡ Ok k
  count_read k fits =
      let read : one_numeral (decimal k ∷ []) ≡ Some (number k) = rw (number_back k (omega (arith, fits))) (rw (kept_number k (omega (arith, fits))) refl) in
      rw read (rw (le-ltb (2 ^ 63 - 1) k (omega (arith, fits)), le-ltb k 0 (omega arith), le-ltb (2 ^ 24) k fits) refl)

  whole : (count : ℕ) (lines : List Row) (nodes : List ℕ) → first_fault (code_of (ss n)) [] lines ≡ None → Stands lines (Some count) nodes → length nodes ≡ count → content_by (ss_text n) lines ≡ Ok (set_of nodes)
  whole count lines nodes clean taken all =
      let ends = enough (codes "ss") 115 (Node ∷ []) n refl refl node_from lines n count nodes taken (omega (arith, all)) in
      rw (clean, ends) (ap (λ (l : List ℕ). Ok (set_of l)) taken.said)

module _ (net : Net) (is : IsNetwork net) (origin : Origin) where
  abbrev first : Row
  first = heading (codes "c") net.room origin

  abbrev second : Row
  second = count_row (length net.landmarks)

  abbrev begun : HasItems (ss net.nodes) node_from [] net.nodes None []
  begun = record { told = refl; problem = refl; counts = refl; said = refl }

  few_landmarks : length net.landmarks ≤ 2 ^ 24
  few_landmarks = let few = is.landmarks_to in omega (arith, few)

  pub landmarks_back : content_by (ss_text net.nodes) (landmark_rows net origin) ≡ Ok net.landmarks
  landmarks_back =
      let headed = takes_ignored (codes "ss") 115 (Node ∷ []) net.nodes refl refl node_from [] net.nodes first None [] begun refl in
      let counted = takes_problem (codes "ss") 115 (Node ∷ []) net.nodes refl refl node_from (first ∷ []) net.nodes (codes "aux" ∷ codes "sp" ∷ codes "ss" ∷ decimal (length net.landmarks) ∷ []) None (length net.landmarks) [] headed.1
      (count_read net.nodes is.nodes_to (length net.landmarks) few_landmarks) in
      let all = nodes_stand net.nodes is.nodes_to (length net.landmarks) (first ∷ second ∷ []) [] net.landmarks counted.1 (recursion_from_All (IsNodeOf net.nodes) net.landmarks is.each_landmark) (omega arith) in
      let clean : first_fault (code_of (ss net.nodes)) [] (landmark_rows net origin) ≡ None = rw (headed.0, counted.0) all.0 in
      whole net.nodes is.nodes_to (length net.landmarks) (landmark_rows net origin) net.landmarks clean all.1 refl ∙ ap Ok (set_of_ascending net.landmarks is.ascending)
