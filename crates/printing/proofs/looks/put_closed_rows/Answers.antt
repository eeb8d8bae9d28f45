use Rattle.std.proofs.Common.{◌∙◌, not, arith}
use Rattle.printing.specs.Exports.{closing_row}
use Rattle.printing.proofs.Looked.{number_written_at}
use Rattle.printing.proofs.looks.put_closed_rows.Goals as goal

pub loop-place-preserved : goal.loop-place-preserved
loop-place-preserved g c = record {
  written = number_written_at (λ arc. not arc.opened) closing_row c.args.arcs.now c.loop-place.place c.get.result.now _ _ _ (omega (arith, c.loop-place-test.true, c.len-place-end.ensures)) (c.get.ensures.item c.get.result.now)
      c.loop-place.invariant.written c.in_ok-put_closing.ensures.written;
  counts = c.in_ok-put_closing.ensures.counts ∙ c.loop-place.invariant.counts;
  same = c.in_ok-put_closing.ensures.same ∙ c.loop-place.invariant.same;
}
