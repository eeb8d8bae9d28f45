use Rattle.std.proofs.Common.{◌≡◌, ◌∙◌, ◌<◌, length, get_or, arith}
use Rattle.std.proofs.lemmas.List.{get_or_read}
use Rattle.routes.specs.declared.replies.RouteReply.TheVariants.{NoWalk}
use Rattle.querytexts.proofs.Routed.{routed_more}
use Rattle.querytexts.proofs.walks.put_routes.Goals as goal

pub loop-index-preserved : goal.loop-index-preserved
loop-index-preserved g c =
    let within : c.loop-index.index < length c.args.replies.now = omega (arith, c.loop-index-test.true, c.requires) in
    let read : c.index-replies-index.result ≡ get_or c.args.replies.now c.loop-index.index NoWalk = get_or_read c.args.replies.now c.loop-index.index c.index-replies-index.result within c.index-replies-index.is NoWalk in
    record {
      answered = routed_more c.args.network.now c.args.pairs.now c.args.replies.now c.loop-index.index (record { source = 0; target = 0 }) NoWalk _ _ _ c.loop-index-test.true within c.loop-index.invariant.answered (rw (c.from-source.ensures, c.from-target.ensures, read) at c.in_ok-put_route.ensures.written);
      counts = c.in_ok-put_route.ensures.counts ∙ c.loop-index.invariant.counts;
      same = c.in_ok-put_route.ensures.same ∙ c.loop-index.invariant.same;
    }
