use Rattle.std.proofs.Common.{◌≡◌, ◌∙◌, length, ap, sym, arith}
use Rattle.std.specs.Vec.{vec_len}
use Rattle.roadnet.specs.Undoing.{restored}
use Rattle.roadnet.proofs.TakenBack.{added_taken, set_beyond, was_taken}
use Rattle.roadnet.proofs.undoing.restore.Goals as goal

pub loop-change-preserved-then-place-len : goal.loop-change-preserved-then-place-len
loop-change-preserved-then-place-len c =
    was_taken c.loop-change.notes.items c.pop.new.self.items c.loop-change.arcs.items c.in-Was.place c.in-Was.arc (rw c.in-Was.is at c.in-Some.ensures.items) ∙ c.loop-change.invariant

pub loop-change-preserved-else-place-len : goal.loop-change-preserved-else-place-len
loop-change-preserved-else-place-len c =
    ap (restored c.pop.new.self.items) (sym (set_beyond c.loop-change.arcs.items c.in-Was.place c.in-Was.arc (omega (arith, c.if-place-len.false))))
    ∙ (was_taken c.loop-change.notes.items c.pop.new.self.items c.loop-change.arcs.items c.in-Was.place c.in-Was.arc (rw c.in-Was.is at c.in-Some.ensures.items) ∙ c.loop-change.invariant)

pub loop-change-preserved : goal.loop-change-preserved
loop-change-preserved c =
    let count : vec_len c.loop-change.arcs ≡ length c.loop-change.arcs.items = omega arith in
    ap (restored c.pop.new.self.items) (rw count at c.pop-in-Added.ensures.rest)
    ∙ (added_taken c.loop-change.notes.items c.pop.new.self.items c.loop-change.arcs.items (rw c.in-Added.is at c.in-Some.ensures.items) ∙ c.loop-change.invariant)
