use Rattle.std.proofs.Common.{◌∙◌}
use Rattle.querytexts.proofs.Reached.{line_written}
use Rattle.querytexts.proofs.reaches.put_reach.Goals as goal

pub loop-one-preserved : goal.loop-one-preserved
loop-one-preserved g c = record {
  written = line_written c.args.reach c.args.told.now c.loop-one.one-index _ _ _ _ c.loop-one-test.true c.loop-one.invariant.written (rw c.query_of.ensures at c.in_ok-put_answer.ensures.written);
  counts = c.in_ok-put_answer.ensures.counts ∙ c.loop-one.invariant.counts;
  same = c.in_ok-put_answer.ensures.same ∙ c.loop-one.invariant.same;
}
