use Rattle.std.proofs.Common.{◌∙◌}
use Rattle.printing.proofs.ReplyLines.{printed_more}
use Rattle.printing.proofs.replied.put_replies.Goals as goal

pub loop-reply-preserved : goal.loop-reply-preserved
loop-reply-preserved g c = record {
  printed = printed_more c.args.replies.now c.loop-reply.reply-index _ _ _ _ c.loop-reply-test.true c.loop-reply.invariant.printed c.in_ok-put_reply.ensures.written;
  counts = c.in_ok-put_reply.ensures.counts ∙ c.loop-reply.invariant.counts;
  same = c.in_ok-put_reply.ensures.same ∙ c.loop-reply.invariant.same;
}
