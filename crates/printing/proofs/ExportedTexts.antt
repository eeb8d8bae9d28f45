-- The texts in which a network is written out are read back.
use Rattle.std.proofs.Common.{◌∙◌, ℕ, ◌+◌, ◌<◌, ◌≤◌, ◌^◌, Bool, true, false, not, cond, List, [], ◌∷◌, length, map, Option, Ok, Err, Result, refl, ap, arith}
use Rattle.std.specs.Prelude.{OnOk, filter}
use Rattle.std.specs.Io.KnownBytes.{Appends}
use Rattle.std.specs.List.{AllByRecursion, enumerate_from}
use Rattle.std.proofs.lemmas.List.Elements.{recursion_from_All}
use lib.Chars.{codes}
use Rattle.roadnet.specs.declared.arcs.RoadArc.{RoadArc}
use Rattle.roadnet.specs.Net.{Net, IsNetwork, IsArcAmong, most_nodes, most_arcs}
use Rattle.dimacs.specs.Commanded.{group_text}
use Rattle.dimacs.specs.Content.{content_of}
use Rattle.dimacs.specs.Landmarks.{ss_text}
use Rattle.dimacs.specs.Texts.{content_by}
use Rattle.printing.specs.declared.exports.Exported.TheVariants.{Network, Landmarks, Closings}
use Rattle.printing.specs.declared.exports.Origin.{Origin}
use Rattle.printing.specs.Chosen.{closed_arcs}
use Rattle.printing.specs.Exports.{text_of, IsOrigin, heading, counts_row, count_row, arc_row, landmark_row, closing_row, network_rows, landmark_rows, closing_rows, SaysExported, WritesText}
use Rattle.printing.proofs.PrintedRows.{IsField, IsLine, rows_back, word_is_field}
use Rattle.printing.proofs.PrintedNumerals.{number_is_field}
use Rattle.printing.proofs.PrintedNetwork.{network_back}
use Rattle.printing.proofs.PrintedLandmarks.{landmarks_back}
use Rattle.printing.proofs.PrintedClosings.{closings_back}

-- ---- each line is one
heading_line : (mark : List ℕ) (room : ℕ) (origin : Origin) → IsField mark → room ≤ most_arcs → IsOrigin origin → IsLine (heading mark room origin)
heading_line mark room origin is fits of =
    let pages = of.1 in (
      is,
      (
        word_is_field (codes "roadmark") refl,
        (
          word_is_field (codes "version") refl,
          (
            number_is_field origin.version of.0,
            (word_is_field (codes "room") refl, (number_is_field room (omega (arith, fits)), (word_is_field (codes "journal") refl, (number_is_field origin.journal_pages (omega (arith, pages)), tt)))),
          ),
        ),
      ),
    )

arc_lines : (nodes : ℕ) → nodes ≤ most_nodes → (arcs : List RoadArc) → AllByRecursion (IsArcAmong nodes) arcs → AllByRecursion IsLine (map arc_row arcs)
arc_lines nodes few [] all = tt
arc_lines nodes few (arc ∷ arcs) all =
    let tail = all.0.tail_to in
    let head = all.0.head_to in
    let length = all.0.length_to in (
      (word_is_field (codes "a") refl, (number_is_field arc.tail (omega (arith, tail, few)), (number_is_field arc.head (omega (arith, head, few)), (number_is_field arc.length (omega (arith, length)), tt)))),
      arc_lines nodes few arcs all.1,
    )

landmark_lines : (nodes : ℕ) → nodes ≤ most_nodes → (xs : List ℕ) → AllByRecursion (λ x. (1 ≤ x) × (x ≤ nodes)) xs → AllByRecursion IsLine (map landmark_row xs)
landmark_lines nodes few [] all = tt
landmark_lines nodes few (x ∷ xs) all = let most = all.0.1 in ((word_is_field (codes "s") refl, (number_is_field x (omega (arith, most, few)), tt)), landmark_lines nodes few xs all.1)

abbrev IsSmall : ℕ → Type 0
IsSmall k = k < 2 ^ 63

closing_lines : (ks : List ℕ) → AllByRecursion IsSmall ks → AllByRecursion IsLine (map closing_row ks)
closing_lines [] all = tt
closing_lines (k ∷ ks) all = let small = all.0 in ((word_is_field (codes "close") refl, (number_is_field k (omega (arith, small)), tt)), closing_lines ks all.1)

-- ---- the numbers of closed arcs are small
small_from : (n : ℕ) (arcs : List RoadArc) → n + length arcs ≤ 2 ^ 62 → AllByRecursion IsSmall (map (λ (p : ℕ × RoadArc). p.0) (filter (λ (p : ℕ × RoadArc). not p.1.opened) (enumerate_from n arcs)))
small_from n [] fits = tt
small_from n (arc ∷ arcs) fits = by (not arc.opened) (small_from (n + 1) arcs (omega (arith, fits)))
  where
    by : (b : Bool) → AllByRecursion IsSmall (map (λ (p : ℕ × RoadArc). p.0) (filter (λ (p : ℕ × RoadArc). not p.1.opened) (enumerate_from (n + 1) arcs)))
        → AllByRecursion IsSmall (map (λ (p : ℕ × RoadArc). p.0) (cond b ((n, arc) ∷ filter (λ (p : ℕ × RoadArc). not p.1.opened) (enumerate_from (n + 1) arcs)) (filter (λ (p : ℕ × RoadArc). not p.1.opened) (enumerate_from (n + 1) arcs))))
    by true rest = (omega (arith, fits), rest)
    by false rest = rest

module _ (net : Net) (is : IsNetwork net) (origin : Origin) (of : IsOrigin origin) where
  few_arcs : length net.arcs ≤ most_arcs
  few_arcs = let arcs = is.arcs_to in let room = is.room_to in omega (arith, arcs, room)

  -- ---- what each text says
  pub network_says : SaysExported Network net (text_of (network_rows net origin))
  network_says =
      let nodes = is.nodes_to in
      let first = heading_line (codes "c") net.room origin (word_is_field (codes "c") refl) is.room_to of in
      let second : IsLine (counts_row net.nodes (length net.arcs)) =
      (word_is_field (codes "p") refl, (word_is_field (codes "sp") refl, (number_is_field net.nodes (omega (arith, nodes)), (number_is_field (length net.arcs) (omega (arith, few_arcs)), tt)))) in
      ap content_of (rows_back (network_rows net origin) (first, (second, arc_lines net.nodes is.nodes_to net.arcs (recursion_from_All (IsArcAmong net.nodes) net.arcs is.each_arc))))
      ∙ network_back net is origin

  pub landmarks_say : SaysExported Landmarks net (text_of (landmark_rows net origin))
  landmarks_say =
      let few = is.landmarks_to in
      let first = heading_line (codes "c") net.room origin (word_is_field (codes "c") refl) is.room_to of in
      let second : IsLine (count_row (length net.landmarks)) =
      (word_is_field (codes "p") refl, (word_is_field (codes "aux") refl, (word_is_field (codes "sp") refl, (word_is_field (codes "ss") refl, (number_is_field (length net.landmarks) (omega (arith, few)), tt))))) in
      ap (content_by (ss_text net.nodes)) (rows_back (landmark_rows net origin) (first, (second, landmark_lines net.nodes is.nodes_to net.landmarks (recursion_from_All (λ x. (1 ≤ x) × (x ≤ net.nodes)) net.landmarks is.each_landmark))))
      ∙ landmarks_back net is origin

  pub closings_say : SaysExported Closings net (text_of (closing_rows net origin))
  closings_say =
      let small = small_from 1 net.arcs (omega (arith, few_arcs)) in
      ap (content_by group_text) (rows_back (closing_rows net origin) (heading_line (codes "#") net.room origin (word_is_field (codes "#") refl) is.room_to of, closing_lines (closed_arcs net.arcs) small))
      ∙ closings_back net.room origin (closed_arcs net.arcs) small

pub on_writes : {X E : Type 0} (r : Result X E) (P : List ℕ → Type 0) (old new : Option (List ℕ)) (text : List ℕ) → P text → OnOk r (Appends old new text) → OnOk r (WritesText P old new)
on_writes (Ok x) P old new text says written = record { text = text; written = written; says = says }
on_writes (Err e) P old new text says written = tt
