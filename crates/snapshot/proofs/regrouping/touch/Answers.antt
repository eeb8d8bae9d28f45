use Rattle.std.proofs.Common.{◌-◌, false, ap, arith}
use Rattle.roadnet.specs.declared.arcs.RoadArc.{RoadArc}
use Rattle.snapshot.proofs.regrouping.touch.Goals as goal

abbrev no_arc : RoadArc
no_arc = record { tail = 0; head = 0; length = 0; opened = false }

pub bounds-touched-tail : goal.bounds-touched-tail
bounds-touched-tail c =
    let tail = c.requires.tails (c.args.number - 1) no_arc (omega (arith, c.if-number-ge1.true, c.if-number-len.true, c.len.ensures)) in
    let same = ap (λ (arc : RoadArc). arc.tail) (c.get.ensures.item no_arc) in
    omega (arith, tail, same)
