use Rattle.std.proofs.Common.{◌≡◌, ◌∙◌, ◌<◌, length, get_or, take, All, refl, subst, arith}
use Rattle.std.proofs.lemmas.List.{length-set, take_all}
use Rattle.rows.proofs.Batched.{right_of}
use Rattle.rows.proofs.Placing.{IsRightAt, all_right, put_more}
use Rattle.rows.proofs.batches.by_places.Goals as goal

pub reply_by-requires-clause-rows : goal.reply_by-requires-clause-rows
reply_by-requires-clause-rows g c = c.fetch_next-made.ensures.kept c.args.network.now c.requires.groups c.loop-index.invariant.kept

pub loop-index-preserved : goal.loop-index-preserved
loop-index-preserved g c =
    let net = c.args.network.now in
    let place = get_or c.args.places.now c.loop-index.index 0 in
    let within : place < length c.args.pairs.now = c.requires.places.within c.loop-index.index 0 c.loop-index-test.true in
    let within' : place < length c.loop-index.replies.items = omega (arith, within, c.loop-index.invariant.count) in
    record {
      right = put_more net g.E.PairEnds.source g.E.PairEnds.target c.args.pairs.now c.loop-index.replies.items place c.index-pairs-place.result c.in_ok-replies-2.field-0 c.args.places.now c.loop-index.index 0 _ c.loop-index-test.true refl within' within c.index-pairs-place.is
          (right_of net _ _ _ _ c.in_ok-replies-2.field-0 c.source-source.ensures c.target-target.ensures c.in_ok-replies-2.ensures.right)
          c.loop-index.invariant.right;
      count = length-set c.loop-index.replies.items place c.in_ok-replies-2.field-0 ∙ c.loop-index.invariant.count;
      kept = c.in_ok-replies-2.ensures.kept;
      others = λ other source row ne there. c.loop-index.invariant.others other source row ne (c.fetch_next-made.ensures.others other source row ne (c.in_ok-replies-2.ensures.others other source row ne there));
      capacity = c.in_ok-replies-2.ensures.capacity ∙ (c.fetch_next-made.ensures.capacity ∙ c.loop-index.invariant.capacity);
    }

pub returns-clause-right : goal.returns-clause-right
returns-clause-right g c =
    let all : take c.loop-index.index c.args.places.now ≡ c.args.places.now = take_all c.loop-index.index c.args.places.now c.loop-index-test.false in
    all_right c.args.network.now g.E.PairEnds.source g.E.PairEnds.target c.args.pairs.now c.loop-index.replies.items c.args.places.now c.loop-index.invariant.count c.requires.places
    (subst (All (IsRightAt c.args.network.now g.E.PairEnds.source g.E.PairEnds.target c.args.pairs.now c.loop-index.replies.items)) all c.loop-index.invariant.right)
