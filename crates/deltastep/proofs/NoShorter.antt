-- No walk is shorter than the words say, where no arc leads nearer; so they are the row.
use Rattle.std.proofs.Common.{◌≡◌, ◌≢◌, ◌∙◌, ℕ, ◌+◌, ◌-◌, ◌<◌, ◌≤◌, List, [], ◌∷◌, Some, length, get_or, map, ap, subst, arith, ⊎_elim}
use Rattle.std.specs.List.{All}
use Rattle.std.proofs.lemmas.Bool.{cases_eq}
use Rattle.std.proofs.lemmas.List.{length-map}
use Rattle.std.proofs.lemmas.List.Sums.{sum_by-append}
use Rattle.roadnet.specs.declared.arcs.RoadArc.{RoadArc}
use Rattle.roadnet.specs.Net.{Net, IsNode, IsNetwork, IsArcAmong, arc_at}
use Rattle.roadnet.specs.Walks.{Walk, RowOf, distance_at, length_of, length_of_arc}
use Rattle.deltastep.specs.Words.{no_walk, distance_of_word}
use Rattle.deltastep.specs.Tentative.{word_at, IsBounded, IsWalked, IsArcSettled}
use Rattle.deltastep.proofs.Reached.{near_bound}
use Rattle.deltastep.proofs.Arcs.{index_of_arc, length_of_one}
use Rattle.roadnet.proofs.Apart.{arc_among}
use Rattle.deltastep.proofs.Entries.{distance_of_none, distance_of_some, distance_at_words}

length_of-cons : (net : Net) (walk : List ℕ) (k : ℕ) (arc : RoadArc) → arc_at net k ≡ Some arc → length_of net (k ∷ walk) ≡ arc.length + length_of net walk
length_of-cons net walk k arc at =
    let one : length_of_arc net k ≡ arc.length = length_of_one net k arc at in
    omega (arith, sum_by-append (length_of_arc net) (k ∷ []) walk)

-- ---- no arc leads nearer: each walk is at least as long as the words say
module _ (net : Net) (words : List ℕ) (ok : IsNetwork net) (bounded : IsBounded net.nodes words) (settled : All (IsArcSettled words) net.arcs) where
  along : (walk : List ℕ) (u t : ℕ) → Walk net u t walk → word_at words u ≢ no_walk → (word_at words t ≢ no_walk) × (word_at words t ≤ word_at words u + length_of net walk)
  along [] u t w ne = rw (← w.1) (ne, omega arith)
  along (k ∷ walk) u t w ne =
      let among : IsArcAmong net.nodes w.0 = arc_among net k w.0 ok w.1 in
      let found : (i : ℕ) × (i < length net.arcs) × (get_or net.arcs i w.0 ≡ w.0) = index_of_arc net k w.0 w.1 in
      let here : IsArcSettled words w.0 = subst (λ (a : RoadArc). IsArcSettled words a) found.2 (settled found.0 w.0 found.1) in
      let ne_tail : word_at words w.0.tail ≢ no_walk = rw w.3 ne in
      let by_arc : word_at words w.0.head ≤ word_at words w.0.tail + w.0.length = here w.2 ne_tail in
      let same : word_at words w.0.tail ≡ word_at words u = ap (word_at words) w.3 in
      let near : word_at words w.0.tail + 2147483647 ≤ 72057594004373504 =
      near_bound net.nodes words (w.0.tail - 1) bounded (omega (arith, bounded.size, ok.nodes_to)) (omega (arith, bounded.size, among.tail_from, among.tail_to)) ne_tail in
      let ne_head : word_at words w.0.head ≢ no_walk = λ e. omega (arith, among.length_to) in
      let rest : (word_at words t ≢ no_walk) × (word_at words t ≤ word_at words w.0.head + length_of net walk) = along walk w.0.head t w.4 ne_head in
      (rest.0, omega (arith, length_of-cons net walk k w.0 w.1))

  pub RowOf-settled : (s : ℕ) → IsNode net s → IsWalked net s words → RowOf net s (map distance_of_word words)
  RowOf-settled s node_s walked =
      let ne_s : word_at words s ≢ no_walk = λ e. omega (arith, walked.source) in
      record {
        size = length-map words distance_of_word ∙ bounded.size;
        each = λ t node.
            let at : distance_at (map distance_of_word words) t ≡ distance_of_word (word_at words t) = distance_at_words words t node.0 (omega (arith, bounded.size, node.1)) in
            ⊎_elim
            (λ (e : word_at words t ≡ no_walk). rw (at, distance_of_none (word_at words t) e) (λ walk w. (along walk s t w ne_s).0 e))
            (λ (ne : word_at words t ≡ no_walk → ⊥).
            rw (at, distance_of_some (word_at words t) ne)
            (record { walked = walked.walked t node ne; least = λ walk w. omega (arith, (along walk s t w ne_s).1, walked.source) }))
            (cases_eq (word_at words t) no_walk);
      }
