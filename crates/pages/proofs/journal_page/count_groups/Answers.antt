use Rattle.std.proofs.Common.{true, false, arith}
use Rattle.roadnet.specs.declared.commands.Command.TheVariants.{Set}
use Rattle.pages.specs.declared.content.Record.{Record}
use Rattle.pages.proofs.Grouped.{counted}
use Rattle.pages.proofs.journal_page.count_groups.Goals.{then-not-record, else-not-record}
use Rattle.pages.proofs.journal_page.count_groups.Goals as goal

pub loop-record-preserved : goal.loop-record-preserved
loop-record-preserved c =
    let d : Record = record { command = Set 0 0; goes_on = false } in
    elim c.if-not-record.branch [
      | then-not-record w ↦ record {
        so_far = counted c.args.records.now c.loop-record.record-index c.loop-record.count c.if-not-record.count d false c.loop-record-test.true w.if-not-record.true c.loop-record.invariant.so_far w.count-is;
        few = omega (arith, w.count-is);
      }
      | else-not-record w ↦ record {
        so_far = counted c.args.records.now c.loop-record.record-index c.loop-record.count c.if-not-record.count d true c.loop-record-test.true w.if-not-record.false c.loop-record.invariant.so_far w.count-is;
        few = omega (arith, w.count-is);
      }
    ]
