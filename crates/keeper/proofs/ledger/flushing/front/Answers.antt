use Rattle.std.proofs.Common.{◌≡◌, ◌∙◌, ℕ, ◌+◌, ◌-◌, ◌≤◌, length, drop, get_or, ap, arith}
use Rattle.machine.specs.Machine.{fitting}
use Rattle.keeper.proofs.Fronts.{one_counted, one_fits}
use Rattle.keeper.proofs.ledger.flushing.front.Goals as goal

pub loop-group-preserved : goal.loop-group-preserved
loop-group-preserved c =
    let gs = c.args.groups.now in
    let i = c.loop-group.group-index in
    let room = c.loop-group.room in
    let d = c.group-item.result in
    let inv = c.loop-group.invariant in
    let sized : length c.commands-size.result.now ≡ length (get_or gs i d) = ap length (c.commands-size.ensures.value ∙ c.group-item.is) in
    let le : length (get_or gs i d) ≤ room = omega (arith, sized, c.if-size-room.false) in
    let left : fitting (room - length c.commands-size.result.now) (drop (i + 1) gs) ≡ fitting (room - length (get_or gs i d)) (drop (i + 1) gs) = ap (λ (k : ℕ). fitting (room - k) (drop (i + 1) gs)) sized in
    record {
      index = omega (arith, inv.index);
      front = omega (arith, inv.front, one_fits gs i room d c.loop-group-test.true le, left);
      sum = omega (arith, inv.sum, one_counted gs i room d c.loop-group-test.true, sized, c.if-size-room.false);
    }
