use Rattle.std.proofs.Common.{◌+◌, ◌-◌, ◌≤◌, length, get_or, arith}
use Rattle.deltastep.proofs.Reached.{near_bound}
use Rattle.deltastep.proofs.plain.relax.Goals as goal

pub overflow_add-through : goal.overflow_add-through
overflow_add-through c =
    let near : get_or c.args.words.now (c.args.arc.tail - 1) 0 + 2147483647 ≤ 72057594004373504 =
    near_bound (length c.args.words.now) c.args.words.now (c.args.arc.tail - 1) c.requires.bounded c.requires.few (omega (arith, c.requires.arc.tail_from, c.requires.arc.tail_to)) c.if-tail.false in
    omega (arith, c.from.ensures, c.requires.arc.length_to)
