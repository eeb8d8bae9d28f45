use Rattle.std.proofs.Common.{◌≡◌, ◌+◌, ◌<◌, ◌≤◌, length, Some, arith}
use Rattle.roadnet.specs.Walks.{distance_at}
use Rattle.snapshot.specs.declared.legs.Leg.{Leg}
use Rattle.deltastep.specs.Repair.{HasLeg}
use Rattle.deltastep.proofs.Phases.{on_true}
use Rattle.deltastep.proofs.Thinning.{All-take_more, All-of_take}
use Rattle.deltastep.proofs.repairs.untouched.are_there.Goals as goal

pub loop-leg-preserved : goal.loop-leg-preserved
loop-leg-preserved c =
    let legs = c.args.legs.now in
    let lt : c.loop-leg.leg-index < length legs = omega arith in
    All-take_more (λ (leg : Leg). distance_at c.args.row.now leg.head ≡ Some (c.args.value + leg.length) → HasLeg c.args.after.now c.args.node leg) legs c.loop-leg.leg-index _ lt c.loop-leg.invariant (on_true c.is_there.result _ c.if-not-is_there.false c.is_there.ensures)

pub returns : goal.returns
returns c =
    let past : length c.args.legs.now ≤ c.loop-leg.leg-index = omega arith in
    All-of_take (λ (leg : Leg). distance_at c.args.row.now leg.head ≡ Some (c.args.value + leg.length) → HasLeg c.args.after.now c.args.node leg) c.args.legs.now c.loop-leg.leg-index past c.loop-leg.invariant
