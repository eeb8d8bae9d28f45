use Rattle.std.proofs.Common.{◌∙◌, sym, subst}
use Rattle.std.specs.List.{All}
use Rattle.roadnet.specs.Batches.{HasFitNumbers}
use Rattle.roadnet.proofs.TakenBack.{group_all}
use Rattle.roadnet.proofs.batches.landmarks_after.Goals as goal

pub change_landmarks_by-requires-clause-fits : goal.change_landmarks_by-requires-clause-fits
change_landmarks_by-requires-clause-fits c = subst (All HasFitNumbers) (sym (c.commands.ensures.value ∙ c.group-item.is)) (group_all HasFitNumbers c.args.groups.now c.loop-group.group-index c.group-item.result c.loop-group-test.true c.requires.fits)
