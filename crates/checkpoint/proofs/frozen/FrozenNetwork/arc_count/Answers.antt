use Rattle.std.proofs.Common.{length, ap, arith}
use Rattle.checkpoint.proofs.FrozenArcs.{length-with_numbers}
use Rattle.checkpoint.proofs.frozen.FrozenNetwork.arc_count.Goals as goal

pub returns : goal.returns
returns c = rw (← c.self.view_is) (omega (arith, c.min.ensures, c.len.ensures, ap length c.arcs.ensures.value, length-with_numbers c.self.inside.network.now.arcs c.self.inside.frozen.now.numbers.items))
