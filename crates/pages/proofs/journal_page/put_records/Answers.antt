use Rattle.pages.proofs.Entries.{room}
use Rattle.pages.proofs.journal_page.put_records.Goals as goal

pub put_record-requires-clause-room : goal.put_record-requires-clause-room
put_record-requires-clause-room c = room c.args.page.now c.loop-record.page c.args.records.now c.loop-record.record-index c.requires.room c.loop-record-test.true c.loop-record.invariant
