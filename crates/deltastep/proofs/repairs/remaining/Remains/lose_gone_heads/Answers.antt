use Rattle.std.proofs.Common.{◌≡◌, ◌+◌, ◌<◌, ◌≤◌, ◌⊎◌, take, length, Some, arith}
use Rattle.roadnet.specs.Walks.{distance_at}
use Rattle.snapshot.specs.declared.legs.Leg.{Leg}
use Rattle.deltastep.specs.Repair.{IsLost, HasLeg}
use Rattle.deltastep.proofs.Thinning.{Thins-on, AreThereOrLost-on, All-take_more, All-of_take}
use Rattle.deltastep.proofs.repairs.remaining.Remains.lose_gone_heads.Goals as goal

pub loop-leg-preserved : goal.loop-leg-preserved
loop-leg-preserved c =
    let legs = c.args.legs.now in
    let i = c.loop-leg.leg-index in
    let lt : i < length legs = omega arith in
    let ensures = c.in_ok-lose_gone.ensures in
    let before = c.loop-leg.self in
    let after = c.lose_gone.new.self in
    record {
      thins = Thins-on c.args.source c.args.self.now.tentative before.tentative after.tentative c.args.self.now.lost.items before.lost.items after.lost.items c.loop-leg.invariant.thins ensures.thins;
      lead = All-take_more (λ (leg : Leg). distance_at c.args.row.now leg.head ≡ Some (c.args.value + leg.length) → HasLeg c.args.after.now c.args.node leg ⊎ IsLost c.args.source after.tentative leg.head) legs i _ lt (AreThereOrLost-on c.args.after.now c.args.source c.args.row.now before.tentative after.tentative c.args.node c.args.value (take i legs) ensures.thins.thinner c.loop-leg.invariant.lead) ensures.lost;
    }

pub returns-clause-lead : goal.returns-clause-lead
returns-clause-lead c =
    let past : length c.args.legs.now ≤ c.loop-leg.leg-index = omega arith in
    All-of_take (λ (leg : Leg). distance_at c.args.row.now leg.head ≡ Some (c.args.value + leg.length) → HasLeg c.args.after.now c.args.node leg ⊎ IsLost c.args.source c.loop-leg.self.tentative leg.head) c.args.legs.now c.loop-leg.leg-index past c.loop-leg.invariant.lead
