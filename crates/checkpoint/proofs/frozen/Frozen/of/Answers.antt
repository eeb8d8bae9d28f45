use Rattle.std.proofs.Common.{◌≡◌, ℕ, ◌^◌, ◌<◌, List, length, sym, ◌∙◌, ap, ap₂, subst, arith}
use Rattle.std.specs.List.{All, AllByRecursion}
use Rattle.std.proofs.lemmas.List.Elements.{recursion_from_All, All-from_recursion}
use Rattle.roadnet.specs.declared.arcs.RoadArc.{RoadArc}
use Rattle.roadnet.specs.Net.{Net, IsNetwork, IsArcAmong}
use Rattle.checkpoint.specs.Frozen.{numbers_of, with_numbers}
use Rattle.checkpoint.proofs.FrozenArcs.{arcs_back, numbers_fit}
use Rattle.checkpoint.proofs.SlotHeld.{short_from}
use Rattle.checkpoint.proofs.frozen.Frozen.of.Goals as goal

short : (net : Net) → IsNetwork net → AllByRecursion (λ arc. arc.length < 2 ^ 31) net.arcs
short net is = short_from net.nodes net.arcs (recursion_from_All (IsArcAmong net.nodes) net.arcs is.each_arc)

pub invariant_of-result : goal.invariant_of-result
invariant_of-result c =
    let net = c.args.network.now in
    let numbers : c.in_ok-numbers.numbers.items ≡ numbers_of net.arcs = c.in_ok-numbers.ensures ∙ ap numbers_of c.arcs.ensures.value in
    record {
      fit = subst (All (λ (n : ℕ). n < 2 ^ 32)) (sym numbers) (All-from_recursion (λ (n : ℕ). n < 2 ^ 32) (numbers_of net.arcs) (numbers_fit net.arcs (short net c.arcs.ensures.network)));
      few = omega (arith, ap length c.in_ok-landmarks.ensures.items, ap length c.landmarks.ensures.value, c.landmarks.ensures.network.landmarks_to);
    }

pub returns-clause-same : goal.returns-clause-same
returns-clause-same c =
    let net = c.args.network.now in
    let numbers : c.in_ok-numbers.numbers.items ≡ numbers_of net.arcs = c.in_ok-numbers.ensures ∙ ap numbers_of c.arcs.ensures.value in
    ap₂ (λ (arcs : List RoadArc) (landmarks : List ℕ). record net { arcs = arcs; landmarks = landmarks })
    (ap (with_numbers net.arcs) numbers ∙ arcs_back net.arcs (short net c.arcs.ensures.network))
    (c.in_ok-landmarks.ensures.items ∙ c.landmarks.ensures.value)
