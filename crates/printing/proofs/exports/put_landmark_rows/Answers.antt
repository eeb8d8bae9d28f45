use Rattle.std.proofs.Common.{◌∙◌}
use Rattle.printing.specs.Exports.{landmark_row}
use Rattle.printing.proofs.Looked.{row_written}
use Rattle.printing.proofs.exports.put_landmark_rows.Goals as goal

pub loop-node-preserved : goal.loop-node-preserved
loop-node-preserved g c = record {
  written = row_written landmark_row c.args.landmarks.now c.loop-node.node-index _ _ _ _ c.loop-node-test.true c.loop-node.invariant.written (rw c.from.ensures at c.in_ok-put_numbered.ensures.written);
  counts = c.in_ok-put_numbered.ensures.counts ∙ c.loop-node.invariant.counts;
  same = c.in_ok-put_numbered.ensures.same ∙ c.loop-node.invariant.same;
}
