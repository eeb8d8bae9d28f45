use Rattle.std.proofs.Common.{◌<◌, ◌≤◌, ◌∙◌, Contains, take, length, arith}
use Rattle.snapshot.specs.declared.legs.Leg.{Leg}
use Rattle.deltastep.specs.Repair.{IsNodeLooked}
use Rattle.deltastep.proofs.Thinning.{All-take_more, All-of_take}
use Rattle.deltastep.proofs.Looking.{All-looked_on}
use Rattle.deltastep.proofs.repairs.near.remember_heads.Goals as goal

pub loop-leg-preserved : goal.loop-leg-preserved
loop-leg-preserved c =
    let legs = c.args.legs.now in
    let i = c.loop-leg.leg-index in
    let lt : i < length legs = omega arith in
    let ensures = c.in_ok-remember_owing.ensures in
    let owes = Contains c.remember_owing.new.owing.nodes in
    record {
      valued = λ begun. ensures.valued (c.loop-leg.invariant.valued begun);
      keeps = λ u some. ensures.keeps u (c.loop-leg.invariant.keeps u some);
      looked = All-take_more (λ (leg : Leg). IsNodeLooked c.args.snapshot.now c.args.tentative.now owes leg.head) legs i _ lt (All-looked_on c.args.snapshot.now c.args.tentative.now (Contains c.loop-leg.owing.nodes) owes (take i legs) ensures.keeps c.loop-leg.invariant.looked) ensures.looked;
      limit = c.remember_owing.ensures.limit ∙ c.loop-leg.invariant.limit;
    }

pub returns-clause-looked : goal.returns-clause-looked
returns-clause-looked c =
    let past : length c.args.legs.now ≤ c.loop-leg.leg-index = omega arith in
    All-of_take (λ (leg : Leg). IsNodeLooked c.args.snapshot.now c.args.tentative.now (Contains c.loop-leg.owing.nodes) leg.head) c.args.legs.now c.loop-leg.leg-index past c.loop-leg.invariant.looked
