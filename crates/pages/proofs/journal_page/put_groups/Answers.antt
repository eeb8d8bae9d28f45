use Rattle.std.proofs.Common.{◌*◌, ◌+◌, ◌≤◌, List, length, sym, subst, ◌∙◌}
use Rattle.std.specs.List.{All}
use Rattle.roadnet.specs.declared.commands.Command.{Command}
use Rattle.pages.specs.declared.content.Format.TheVariants.{Two}
use Rattle.pages.specs.Spelling.{FitsRecord}
use Rattle.pages.proofs.Grouped.{all_of_group}
use Rattle.pages.proofs.Entries.{groups_room}
use Rattle.pages.proofs.journal_page.put_groups.Goals as goal

pub put_group-requires-clause-fits : goal.put_group-requires-clause-fits
put_group-requires-clause-fits c =
    subst (All (FitsRecord Two)) (sym (c.commands.ensures.value ∙ c.group-item.is))
    (all_of_group (FitsRecord Two) c.args.groups.now c.loop-group.group-index c.group-item.result c.loop-group-test.true c.requires.fits)

pub put_group-requires-clause-room : goal.put_group-requires-clause-room
put_group-requires-clause-room c =
    subst (λ (xs : List Command). length c.loop-group.page + 16 * length xs ≤ 4096) (sym (c.commands.ensures.value ∙ c.group-item.is))
    (groups_room c.args.page.now c.loop-group.page c.args.groups.now c.loop-group.group-index c.group-item.result c.requires.room c.loop-group-test.true c.loop-group.invariant)
