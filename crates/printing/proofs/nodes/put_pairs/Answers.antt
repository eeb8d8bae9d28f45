use Rattle.std.proofs.Common.{◌∙◌, ◌<◌, length, arith}
use Rattle.printing.proofs.Noded.{pair_written}
use Rattle.printing.proofs.nodes.put_pairs.Goals as goal

pub loop-index-preserved : goal.loop-index-preserved
loop-index-preserved g c =
    let within : c.loop-index.index < length c.args.replies.now = omega (arith, c.loop-index-test.true, c.requires) in
    record {
      answered = pair_written c.args.pairs.now c.args.replies.now c.loop-index.index _ _ _ _ _ c.loop-index-test.true within c.loop-index.invariant.answered c.in_ok-put_answer.ensures.written;
      counts = c.in_ok-put_answer.ensures.counts ∙ c.loop-index.invariant.counts;
      same = c.in_ok-put_answer.ensures.same ∙ c.loop-index.invariant.same;
    }
