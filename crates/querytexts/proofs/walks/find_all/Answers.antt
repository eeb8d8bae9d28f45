use Rattle.std.proofs.Common.{◌≡◌, ◌++◌, [], ◌∷◌, arith}
use Rattle.std.proofs.lemmas.Grind.{common_steps}
use Rattle.querytexts.proofs.Routed.{right_more}
use Rattle.querytexts.proofs.walks.find_all.Goals as goal

pub loop-pair-preserved : goal.loop-pair-preserved
loop-pair-preserved g c =
    let pushed : c.push.new.self.items ≡ c.loop-pair.replies.items ++ c.in_ok-reply.reply ∷ [] = grind (arith, common_steps, c.push.ensures.items) in
    rw pushed (right_more c.args.network.now c.args.pairs.now c.loop-pair.replies.items c.loop-pair.pair-index _ c.in_ok-reply.reply c.loop-pair-test.true c.loop-pair.invariant (rw (c.of-asker.ensures, c.from-source.ensures, c.from-target.ensures) at c.in_ok-reply.ensures.right))
