use Rattle.std.proofs.Common.{refl}
use Rattle.roadnet.specs.declared.commands.Command.TheVariants.{Set}
use Rattle.pages.proofs.Entries.{group_room, group_more, group_done}
use Rattle.pages.proofs.journal_page.put_group.Goals as goal

pub put_record-requires-clause-room : goal.put_record-requires-clause-room
put_record-requires-clause-room c = group_room c.args.page.now c.loop-i.page c.args.commands.now c.loop-i.i c.requires.room c.loop-i-test.true c.loop-i.invariant

pub loop-i-preserved : goal.loop-i-preserved
loop-i-preserved c = group_more c.args.page.now c.loop-i.page c.put_record.new.page c.args.commands.now c.loop-i.i (Set 0 0) _ c.loop-i-test.true refl c.loop-i.invariant c.put_record.ensures

pub returns : goal.returns
returns c = group_done c.args.page.now c.loop-i.page c.args.commands.now c.loop-i.i c.loop-i-test.false c.loop-i.invariant
