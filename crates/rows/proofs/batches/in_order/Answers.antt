use Rattle.std.proofs.Common.{◌≡◌, ◌∙◌, ◌+◌, ◌++◌, ◌∷◌, [], take, rules, subst, sym, refl, ap}
use Rattle.rows.specs.Batches.{AreRightBy}
use Rattle.rows.proofs.Batched.{right_more, right_of}
use Rattle.rows.proofs.batches.in_order.Goals as goal

pub loop-pair-init : goal.loop-pair-init
loop-pair-init g c =
    let none : c.in_ok-replies.replies.items ≡ [] = c.in_ok-replies.ensures.items in
    record {
      right = subst (AreRightBy c.args.network.now g.E.PairEnds.source g.E.PairEnds.target []) (sym none) tt;
      kept = c.requires.rows;
      others = λ other source row ne there. there;
      capacity = refl;
    }

pub loop-pair-preserved : goal.loop-pair-preserved
loop-pair-preserved g c =
    let pushed : c.push.new.self.items ≡ c.loop-pair.replies.items ++ c.in_ok-reply.reply ∷ [] = search rules in
    record {
      right = subst (AreRightBy c.args.network.now g.E.PairEnds.source g.E.PairEnds.target (take (c.loop-pair.pair-index + 1) c.args.pairs.now)) (sym pushed)
          (right_more c.args.network.now g.E.PairEnds.source g.E.PairEnds.target c.args.pairs.now c.loop-pair.pair-index _ c.loop-pair.replies.items c.in_ok-reply.reply c.loop-pair-test.true c.loop-pair.invariant.right
          (right_of c.args.network.now _ _ _ _ c.in_ok-reply.reply (c.source-source.ensures ∙ ap g.E.PairEnds.source c.pair-item.is) (c.target-target.ensures ∙ ap g.E.PairEnds.target c.pair-item.is) c.in_ok-reply.ensures.right));
      kept = c.in_ok-reply.ensures.kept;
      others = λ other source row ne there. c.loop-pair.invariant.others other source row ne (c.in_ok-reply.ensures.others other source row ne there);
      capacity = c.in_ok-reply.ensures.capacity ∙ c.loop-pair.invariant.capacity;
    }
