use Rattle.std.proofs.Common.{◌∙◌}
use Rattle.printing.specs.Exports.{arc_row}
use Rattle.printing.proofs.Looked.{row_written}
use Rattle.printing.proofs.exports.put_arc_rows.Goals as goal

pub loop-arc-preserved : goal.loop-arc-preserved
loop-arc-preserved g c = record {
  written = row_written arc_row c.args.arcs.now c.loop-arc.arc-index _ _ _ _ c.loop-arc-test.true c.loop-arc.invariant.written c.in_ok-put_arc_row.ensures.written;
  counts = c.in_ok-put_arc_row.ensures.counts ∙ c.loop-arc.invariant.counts;
  same = c.in_ok-put_arc_row.ensures.same ∙ c.loop-arc.invariant.same;
}
