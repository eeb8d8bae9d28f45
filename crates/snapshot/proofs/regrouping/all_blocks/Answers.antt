use Rattle.std.proofs.Common.{◌≡◌, ◌∙◌, ◌+◌, ◌<◌, [], length, get_or, map, ap, sym, arith}
use Rattle.std.proofs.lemmas.List.{length_push, get_or-map}
use Rattle.snapshot.proofs.Shared.{blocks_more}
use Rattle.snapshot.proofs.regrouping.all_blocks.Goals as goal

pub loop-places-preserved : goal.loop-places-preserved
loop-places-preserved g c =
    let h : c.loop-places.places-index < length c.args.index.now = omega (arith, c.loop-places-test.true) in
    let read : c.deref-in-loop-places.result.now ≡ get_or (map (λ places. places.value.items) c.args.index.now) c.loop-places.places-index [] = c.deref-in-loop-places.ensures.value ∙ (ap (λ v. v.items) c.deref.ensures ∙ (ap (λ places. places.value.items) c.places-item.is ∙ sym (get_or-map (λ places. places.value.items) c.args.index.now c.loop-places.places-index c.places-item.result [] h))) in
    rw c.in_ok-push.ensures.ok
    (record {
      count = length_push c.loop-places.blocks c.in_ok-regrouped.field-0 ∙ ap (λ n. n + 1) c.loop-places.invariant.count;
      each = blocks_more (g.R.Roads.network c.args.roads.now).arcs c.args.delta c.loop-places.blocks c.in_ok-regrouped.field-0 c.loop-places.places-index c.loop-places.invariant.count c.loop-places.invariant.each (c.in_ok-regrouped.ensures c.loop-places.places-index (read ∙ c.requires.index c.loop-places.places-index h));
    })

pub push-requires : goal.push-requires
push-requires g c = record { room = omega (arith, c.loop-places.invariant.count, c.loop-places-test.true, c.requires.size) }
