-- Each reached word is the length of some walk: a word that is lowered by way of an arc stays one.
use Rattle.std.proofs.Common.{◌≡◌, ◌≢◌, ◌∙◌, ℕ, ◌+◌, ◌-◌, ◌<◌, true, List, [], ◌∷◌, ◌++◌, Some, length, get_or, set, refl, ap, sym, subst, arith, ⊎_elim}
use Rattle.std.proofs.lemmas.Bool.{cases_eq}
use Rattle.std.proofs.lemmas.List.{get_or-set_same, get_or-set_other}
use Rattle.std.proofs.lemmas.List.Sums.{sum_by-append}
use Rattle.roadnet.specs.declared.arcs.RoadArc.{RoadArc}
use Rattle.roadnet.specs.Net.{Net, IsNode, IsNetwork, IsArcAmong, arc_at}
use Rattle.roadnet.specs.Walks.{Walk, length_of, length_of_arc}
use Rattle.deltastep.specs.Words.{no_walk}
use Rattle.deltastep.specs.Tentative.{word_at, IsWalked}
use Rattle.deltastep.proofs.Arcs.{length_of_one}
use Rattle.roadnet.proofs.Apart.{arc_among}

Walk-push : (net : Net) (s u k : ℕ) (arc : RoadArc) (walk : List ℕ) → IsNode net arc.head → Walk net s u walk → arc_at net k ≡ Some arc → arc.opened ≡ true → arc.tail ≡ u → Walk net s arc.head (walk ++ k ∷ [])
Walk-push net s u k arc [] node w at opened tail = (arc, at, opened, tail ∙ sym w.1, (node, refl))
Walk-push net s u k arc (j ∷ walk) node w at opened tail = (w.0, w.1, w.2, w.3, Walk-push net w.0.head u k arc walk node w.4 at opened tail)

length_of-push : (net : Net) (walk : List ℕ) (k : ℕ) (arc : RoadArc) → arc_at net k ≡ Some arc → length_of net (walk ++ k ∷ []) ≡ length_of net walk + arc.length
length_of-push net walk k arc at =
    let one : length_of_arc net k ≡ arc.length = length_of_one net k arc at in
    omega (arith, sum_by-append (length_of_arc net) walk (k ∷ []))

pub IsWalked-set : (net : Net) (s : ℕ) (words : List ℕ) (k : ℕ) (arc : RoadArc) → IsNetwork net → length words ≡ net.nodes → arc_at net k ≡ Some arc → arc.opened ≡ true → word_at words arc.tail ≢ no_walk → word_at words arc.tail + arc.length < word_at words arc.head → IsWalked net s words → IsWalked net s (set words (arc.head - 1) (word_at words arc.tail + arc.length))
IsWalked-set net s words k arc ok size at opened reached nearer walked =
    let among : IsArcAmong net.nodes arc = arc_among net k arc ok at in
    let i_in : arc.head - 1 < length words = omega (arith, among.head_from, among.head_to) in
    record {
      source =
          ⊎_elim (λ (e : s - 1 ≡ arc.head - 1). let zero_there : get_or words (arc.head - 1) 0 ≡ 0 = rw (← e) walked.source in absurd (omega arith))
          (λ (other : s - 1 ≡ arc.head - 1 → ⊥). get_or-set_other words (arc.head - 1) (s - 1) _ 0 other ∙ walked.source) (cases_eq (s - 1) (arc.head - 1));
      walked = λ t node ne.
          ⊎_elim
          (λ (e : t - 1 ≡ arc.head - 1).
          let here : t ≡ arc.head = omega (arith, among.head_from, node.0) in
          let is : word_at (set words (arc.head - 1) (word_at words arc.tail + arc.length)) t ≡ word_at words arc.tail + arc.length = rw e (get_or-set_same words (arc.head - 1) _ 0 i_in) in
          let to_tail : (walk : List ℕ) × Walk net s arc.tail walk × (length_of net walk ≡ word_at words arc.tail) = walked.walked arc.tail (among.tail_from, among.tail_to) reached in
          (to_tail.0 ++ k ∷ [], subst (λ (u : ℕ). Walk net s u (to_tail.0 ++ k ∷ [])) (sym here) (Walk-push net s arc.tail k arc to_tail.0 (among.head_from, among.head_to) to_tail.1 at opened refl), length_of-push net to_tail.0 k arc at ∙ ap (λ n. n + arc.length) to_tail.2 ∙ sym is))
          (λ (other : t - 1 ≡ arc.head - 1 → ⊥).
          let is : word_at (set words (arc.head - 1) (word_at words arc.tail + arc.length)) t ≡ word_at words t = get_or-set_other words (arc.head - 1) (t - 1) _ 0 other in
          let there : (walk : List ℕ) × Walk net s t walk × (length_of net walk ≡ word_at words t) = walked.walked t node (λ e. ne (is ∙ e)) in
          (there.0, there.1, there.2 ∙ sym is))
          (cases_eq (t - 1) (arc.head - 1));
    }
