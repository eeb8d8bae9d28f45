use Rattle.std.proofs.Common.{◌∙◌, not}
use Rattle.printing.specs.Exports.{closing_row}
use Rattle.printing.proofs.Looked.{number_written}
use Rattle.printing.proofs.exports.put_closing_rows.Goals as goal

pub loop-index-preserved : goal.loop-index-preserved
loop-index-preserved g c = record {
  written = number_written (λ arc. not arc.opened) closing_row c.args.arcs.now c.loop-index.index _ _ _ _ c.loop-index-test.true c.loop-index.invariant.written c.in_ok-put_closing.ensures.written;
  counts = c.in_ok-put_closing.ensures.counts ∙ c.loop-index.invariant.counts;
  same = c.in_ok-put_closing.ensures.same ∙ c.loop-index.invariant.same;
}
