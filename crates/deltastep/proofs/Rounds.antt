-- One round over the arcs, and the words at the start.
use Rattle.std.proofs.Common.{◌≡◌, ◌∙◌, ℕ, suc, ◌+◌, ◌-◌, ◌<◌, ◌≤◌, Bool, true, false, List, [], ◌++◌, Some, length, get_or, set, take, drop, replicate, map, sum, MatchBool, refl, ap, sym, subst, arith, ⊎_elim}
use Rattle.std.specs.List.{All}
use Rattle.std.proofs.lemmas.Bool.{cases_eq}
use Rattle.std.proofs.lemmas.List.{take_at, take_all, length-replicate, get_or-replicate, get_or-set_same, get_or-set_other, length-set}
use Rattle.std.proofs.lemmas.List.Elements.{All-more, All-get_or}
use Rattle.std.proofs.lemmas.Option.{slice_get-get_or}
use Rattle.roadnet.specs.declared.arcs.RoadArc.{RoadArc}
use Rattle.roadnet.specs.Net.{Net, IsNode, IsNetwork, IsArcAmong, arc_at}
use Rattle.roadnet.specs.Walks.{RowOf}
use Rattle.deltastep.specs.Words.{no_walk, distance_of_word}
use Rattle.deltastep.specs.Tentative.{word_at, reached_count, IsBounded, IsWalked, IsArcSettled, IsLowered}
use Rattle.deltastep.proofs.Reached.{count_of, count_none, count_one, count-set, IsBounded-set, sum-set_lower}
use Rattle.roadnet.proofs.Apart.{arc_among}
use Rattle.deltastep.proofs.SomeWalk.{IsWalked-set}
use Rattle.deltastep.proofs.NoShorter.{RowOf-settled}

-- ---- the first i arcs have been relaxed, starting from old
pub record IsPartlyRelaxed (net : Net) (old new : List ℕ) (nearer : Bool) (i : ℕ) : Type 0 where
  pub bounded : IsBounded net.nodes new
  pub walked : (s : ℕ) → IsWalked net s old → IsWalked net s new
  pub cases : MatchBool nearer (sum new < sum old) ((new ≡ old) × All (IsArcSettled old) (take i net.arcs))

module _ (net : Net) (ok : IsNetwork net) (old mid new : List ℕ) (i : ℕ) (arc : RoadArc) (lt : i < length net.arcs) (is : arc ≡ get_or net.arcs i arc) where
  number_of_arc : arc_at net (suc i) ≡ Some arc
  number_of_arc = slice_get-get_or net.arcs i arc lt ∙ ap (λ (a : RoadArc). Some a) (sym is)

  sum_not_above : (nearer : Bool) → MatchBool nearer (sum mid < sum old) ((mid ≡ old) × All (IsArcSettled old) (take i net.arcs)) → sum mid ≤ sum old
  sum_not_above true cases = omega arith
  sum_not_above false cases = rw cases.0 (omega arith)

  pub relaxed_nearer : (nearer : Bool) → IsPartlyRelaxed net old mid nearer i → IsLowered arc mid new → IsPartlyRelaxed net old new true (i + 1)
  relaxed_nearer nearer part lowered =
      let among : IsArcAmong net.nodes arc = arc_among net (suc i) arc ok number_of_arc in
      let few : length mid ≤ 33554432 = omega (arith, part.bounded.size, ok.nodes_to) in
      let tail_in : arc.tail - 1 < length mid = omega (arith, part.bounded.size, among.tail_from, among.tail_to) in
      let head_in : arc.head - 1 < length mid = omega (arith, part.bounded.size, among.head_from, among.head_to) in
      let way : word_at mid arc.tail + arc.length ≤ get_or mid (arc.tail - 1) 0 + 2147483647 = omega (arith, among.length_to) in
      record {
        bounded = rw lowered.after (IsBounded-set net.nodes mid (arc.tail - 1) (arc.head - 1) (word_at mid arc.tail + arc.length) part.bounded few tail_in lowered.reached way head_in lowered.nearer);
        walked = λ s w. rw lowered.after (IsWalked-set net s mid (suc i) arc ok part.bounded.size number_of_arc lowered.opened lowered.reached lowered.nearer (part.walked s w));
        cases = rw lowered.after (omega (arith, sum-set_lower mid (arc.head - 1) (word_at mid arc.tail + arc.length) head_in lowered.nearer, sum_not_above nearer part.cases));
      }

  kept_cases : (nearer : Bool) → IsArcSettled mid arc → new ≡ mid → MatchBool nearer (sum mid < sum old) ((mid ≡ old) × All (IsArcSettled old) (take i net.arcs)) → MatchBool nearer (sum new < sum old) ((new ≡ old) × All (IsArcSettled old) (take (i + 1) net.arcs))
  kept_cases true settled same cases = rw same cases
  kept_cases false settled same cases =
      let here : IsArcSettled old (get_or net.arcs i arc) = subst (λ (a : RoadArc). IsArcSettled old a) is (subst (λ (w : List ℕ). IsArcSettled w arc) cases.0 settled) in
      (same ∙ cases.0, All-more (IsArcSettled old) net.arcs i arc lt cases.1 here)

  pub relaxed_settled : (nearer : Bool) → IsPartlyRelaxed net old mid nearer i → (new ≡ mid) × IsArcSettled mid arc → IsPartlyRelaxed net old new nearer (i + 1)
  relaxed_settled nearer part kept = record {
    bounded = rw kept.0 part.bounded;
    walked = λ s w. rw kept.0 (part.walked s w);
    cases = kept_cases nearer kept.1 kept.0 part.cases;
  }

-- ---- at the start the source alone is reached
module _ (net : Net) (s : ℕ) (node : IsNode net s) where
  start : List ℕ
  start = set (replicate net.nodes 18446744073709551615) (s - 1) 0

  start_size : length start ≡ net.nodes
  unfolding start
  start_size = length-set _ _ _ ∙ length-replicate net.nodes 18446744073709551615

  start_source : get_or start (s - 1) 0 ≡ 0
  unfolding start
  start_source = get_or-set_same _ (s - 1) 0 0 (rw length-replicate (omega (arith, node.0, node.1)))

  start_other : (k : ℕ) → k < net.nodes → (k ≡ s - 1 → ⊥) → get_or start k 0 ≡ no_walk
  unfolding start
  start_other k lt other = get_or-set_other _ (s - 1) k 0 0 other ∙ get_or-replicate net.nodes k 18446744073709551615 0 lt

  start_count : 1 ≤ reached_count start
  unfolding start
  start_count =
      let s_in : s - 1 < length (replicate net.nodes 18446744073709551615) = rw length-replicate (omega (arith, node.0, node.1)) in
      let before : get_or (replicate net.nodes 18446744073709551615) (s - 1) 0 ≡ no_walk = get_or-replicate net.nodes (s - 1) 18446744073709551615 0 (omega (arith, node.0, node.1)) in
      let none : count_of (get_or (replicate net.nodes 18446744073709551615) (s - 1) 0) ≡ 0 = count_none _ before in
      let one : count_of 0 ≡ 1 = count_one 0 (λ e. absurd (omega arith)) in
      omega (arith, count-set (replicate net.nodes 18446744073709551615) (s - 1) 0 s_in)

  pub IsBounded-start : (words : List ℕ) → words ≡ set (replicate net.nodes 18446744073709551615) (s - 1) 0 → IsBounded net.nodes words
  unfolding start
  IsBounded-start words is = rw is (record {
    size = start_size;
    near = λ k lt ne.
        ⊎_elim (λ (e : k ≡ s - 1). let zero_there : get_or start k 0 ≡ 0 = rw e start_source in omega (arith, start_count, zero_there))
        (λ (other : k ≡ s - 1 → ⊥). absurd (ne (start_other k (omega (arith, start_size)) other))) (cases_eq k (s - 1));
  })

  pub IsWalked-start : (words : List ℕ) → words ≡ set (replicate net.nodes 18446744073709551615) (s - 1) 0 → IsWalked net s words
  unfolding start
  IsWalked-start words is = rw is (record {
    source = start_source;
    walked = λ t there ne.
        ⊎_elim
        (λ (e : t - 1 ≡ s - 1).
        let same : s ≡ t = omega (arith, node.0, there.0) in
        let zero_there : get_or start (t - 1) 0 ≡ 0 = rw e start_source in
        ([], (node, same), sym zero_there))
        (λ (other : t - 1 ≡ s - 1 → ⊥). absurd (ne (start_other (t - 1) (omega (arith, there.0, there.1)) other))) (cases_eq (t - 1) (s - 1));
  })

pub cases_at_end : (net : Net) (old new : List ℕ) (nearer : Bool) (i : ℕ) → length net.arcs ≤ i → MatchBool nearer (sum new < sum old) ((new ≡ old) × All (IsArcSettled old) (take i net.arcs)) → MatchBool nearer (sum new < sum old) ((new ≡ old) × All (IsArcSettled old) net.arcs)
cases_at_end net old new true i all cases = cases
cases_at_end net old new false i all cases = (cases.0, subst (λ (arcs : List RoadArc). All (IsArcSettled old) arcs) (take_all i net.arcs all) cases.1)

-- ---- the same, as the loop over the arcs has it
module _ (net : Net) (ok : IsNetwork net) (old mid new : List ℕ) (arcs : List RoadArc) (i : ℕ) (arc : RoadArc) (e : arcs ≡ net.arcs) (lt : i < length arcs) (is : get_or arcs i arc ≡ arc) where
  index_in : i < length net.arcs
  index_in = omega (arith, ap length e)

  arc_read : arc ≡ get_or net.arcs i arc
  arc_read = sym is ∙ ap (λ (l : List RoadArc). get_or l i arc) e

  pub among : IsArcAmong net.nodes arc
  among = subst (λ (a : RoadArc). IsArcAmong net.nodes a) (sym arc_read) (All-get_or (IsArcAmong net.nodes) net.arcs i arc index_in ok.each_arc)

  pub nearer_more : (nearer : Bool) → IsPartlyRelaxed net old mid nearer i → IsLowered arc mid new → IsPartlyRelaxed net old new true (i + 1)
  nearer_more = relaxed_nearer net ok old mid new i arc index_in arc_read

  pub settled_more : (nearer : Bool) → IsPartlyRelaxed net old mid nearer i → (new ≡ mid) × IsArcSettled mid arc → IsPartlyRelaxed net old new nearer (i + 1)
  settled_more = relaxed_settled net ok old mid new i arc index_in arc_read

-- a round in which no node came nearer leaves the row
pub RowOf-round : (net : Net) (s : ℕ) (old new : List ℕ) → IsNetwork net → IsNode net s → IsBounded net.nodes new → IsWalked net s new → (new ≡ old) × All (IsArcSettled old) net.arcs → RowOf net s (map distance_of_word new)
RowOf-round net s old new ok node bounded walked round =
    RowOf-settled net new ok bounded (subst (λ (w : List ℕ). All (IsArcSettled w) net.arcs) (sym round.0) round.1) s node walked

-- a slice written back into its Vec, whole
pub written_back : (n : ℕ) (new old : List ℕ) → n ≡ length old → length new ≡ length old → take n (new ++ drop (length new) old) ≡ new
written_back n new old is same = rw is (rw (← same) (take_at new (drop (length new) old) (length new) refl))
