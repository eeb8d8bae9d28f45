use Rattle.std.proofs.Common.{◌∙◌, ◌<◌, ap, length, not, arith, rules}
use Rattle.roadnet.specs.declared.arcs.RoadArc.{RoadArc}
use Rattle.printing.proofs.Looked.{counted_yes, counted_no}
use Rattle.printing.proofs.looks.count_closed.Goals as goal
use Rattle.printing.proofs.looks.count_closed.Goals.{then-not-get, else-not-get}

pub loop-place-preserved : goal.loop-place-preserved
loop-place-preserved c =
    let arc = c.get.result.now in
    let lt : c.loop-place.place < length c.args.arcs.now = omega (arith, c.loop-place-test.true, c.len-place-end.ensures) in
    let closed = ap (λ (x : RoadArc). not x.opened) (c.get.ensures.item arc) in
    elim c.if-not-get.branch [
      | then-not-get w ↦ rw w.count-is (record {
        counted = counted_yes (λ arc. not arc.opened) c.args.arcs.now c.loop-place.place arc c.loop-place.count lt (closed ∙ ap not w.if-not-get.true) c.loop-place.invariant.counted;
        most = search rules;
      })
      | else-not-get w ↦ rw w.count-is (record {
        counted = counted_no (λ arc. not arc.opened) c.args.arcs.now c.loop-place.place arc c.loop-place.count lt (closed ∙ ap not w.if-not-get.false) c.loop-place.invariant.counted;
        most = search rules;
      })
    ]
