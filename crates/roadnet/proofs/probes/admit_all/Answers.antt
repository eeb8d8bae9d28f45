use Rattle.std.proofs.Common.{◌≡◌, ◌∙◌, get_or, refl, subst, take, Some, None, List}
use Rattle.roadnet.specs.declared.commands.Command.{Command}
use Rattle.roadnet.specs.Step.{first_refusal}
use Rattle.roadnet.specs.Batches.{changed_by_all}
use Rattle.roadnet.proofs.GroupsInTurn.{one_group_admitted, group_refused_here}
use Rattle.roadnet.proofs.probes.admit_all.Goals as goal

pub loop-i-init : goal.loop-i-init
loop-i-init g c net ok of = refl

pub admit_one-requires : goal.admit_one-requires
admit_one-requires g c = record { groups = c.loop-i.invariant }

pub returns-in-Err : goal.returns-in-Err
returns-in-Err g c net ok of =
    let is : c.commands.result.now ≡ get_or c.args.groups.now c.loop-i.i c.index-groups-i.result = c.commands.ensures.value ∙ c.index-groups-i.is in
    group_refused_here net c.args.groups.now c.loop-i.i c.index-groups-i.result c.in-Err.refusal c.loop-i-test.true (c.loop-i.invariant net ok of)
    (subst (λ (cs : List Command). first_refusal (changed_by_all net (take c.loop-i.i c.args.groups.now)) cs ≡ Some c.in-Err.refusal) is (c.in-Err.ensures net ok of))

pub loop-i-preserved : goal.loop-i-preserved
loop-i-preserved g c net ok of =
    let is : c.commands.result.now ≡ get_or c.args.groups.now c.loop-i.i c.index-groups-i.result = c.commands.ensures.value ∙ c.index-groups-i.is in
    one_group_admitted net c.args.groups.now c.loop-i.i c.index-groups-i.result c.loop-i-test.true (c.loop-i.invariant net ok of)
    (subst (λ (cs : List Command). first_refusal (changed_by_all net (take c.loop-i.i c.args.groups.now)) cs ≡ None) is (c.in_default.ensures net ok of))
