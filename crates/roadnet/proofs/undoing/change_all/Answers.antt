use Rattle.std.proofs.Common.{◌∙◌, sym, subst}
use Rattle.std.specs.List.{All}
use Rattle.roadnet.specs.Batches.{HasFitNumbers}
use Rattle.roadnet.proofs.TakenBack.{group_all}
use Rattle.roadnet.proofs.undoing.change_all.Goals as goal

pub change_arcs-requires : goal.change_arcs-requires
change_arcs-requires c = subst (All HasFitNumbers) (sym (c.commands.ensures.value ∙ c.group-item.is)) (group_all HasFitNumbers c.args.groups.now c.loop-group.group-index c.group-item.result c.loop-group-test.true c.requires)
