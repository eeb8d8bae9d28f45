use Rattle.std.proofs.Common.{◌≡◌, ◌∙◌, ◌<◌, true, false, [], length, get_or, map, ap, sym, arith}
use Rattle.std.proofs.lemmas.List.{get_or-map, get_or_default, length-set}
use Rattle.snapshot.proofs.Regrouped.{all_done, done_more, kept_more}
use Rattle.snapshot.proofs.regrouping.blocks_after.Goals as goal

pub loop-block-preserved : goal.loop-block-preserved
loop-block-preserved g c =
    let arcs = (g.R.Roads.network c.args.roads.now).arcs in
    let blocks = c.loop-block.blocks in
    let k = c.loop-block.block in
    let next = c.in_ok-next.next in
    let h : k < length c.args.index.now = omega (arith, c.loop-block-test.true, c.requires.flags, c.requires.blocks) in
    let mark : get_or c.args.touched.now k true ≡ true = get_or_default c.args.touched.now k true false (omega (arith, c.loop-block-test.true)) ∙ c.if-not-touched-block.false in
    let read : c.deref-in-loop-block.result.now ≡ get_or (map (λ places. places.value.items) c.args.index.now) k [] = c.deref-in-loop-block.ensures.value ∙ (ap (λ v. v.items) c.deref.ensures ∙ (ap (λ places. places.value.items) c.index-index-block.is ∙ sym (get_or-map (λ places. places.value.items) c.args.index.now k c.index-index-block.result [] h))) in
    rw c.in_ok-set.ensures.ok
    (record {
      count = length-set blocks k next ∙ c.loop-block.invariant.count;
      kept = kept_more arcs c.args.delta c.args.touched.now c.args.old.now blocks k next mark c.loop-block.invariant.kept;
      done = done_more arcs c.args.delta c.args.touched.now k blocks next (c.in_ok-next.ensures k (read ∙ c.requires.index k h)) c.loop-block.invariant.done;
    })

pub returns-clause-each : goal.returns-clause-each
returns-clause-each g c =
    all_done (g.R.Roads.network c.args.roads.now).arcs c.args.delta c.args.touched.now c.args.old.now c.loop-block.blocks c.loop-block.block (omega (arith, c.loop-block-test.false, c.loop-block.auto.block-end, c.requires.flags, c.loop-block.invariant.count)) c.loop-block.invariant.count c.loop-block.invariant.kept c.loop-block.invariant.done c.requires.untouched
