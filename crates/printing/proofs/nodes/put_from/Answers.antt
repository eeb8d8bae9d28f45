use Rattle.std.proofs.Common.{◌∙◌}
use Rattle.printing.specs.Nodes.{reach_line_from}
use Rattle.printing.proofs.Noded.{line_more}
use Rattle.printing.proofs.nodes.put_from.Goals as goal

pub loop-near-preserved : goal.loop-near-preserved
loop-near-preserved g c = record {
  written = line_more (reach_line_from c.args.source) c.args.told.now c.loop-near.near-index _ _ _ _ c.loop-near-test.true c.loop-near.invariant.written (rw c.from-target.ensures at c.in_ok-put_answer.ensures.written);
  counts = c.in_ok-put_answer.ensures.counts ∙ c.loop-near.invariant.counts;
  same = c.in_ok-put_answer.ensures.same ∙ c.loop-near.invariant.same;
}
