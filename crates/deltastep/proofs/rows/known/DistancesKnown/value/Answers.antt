use Rattle.std.proofs.Common.{◌∙◌}
use Rattle.deltastep.proofs.Finishing.{distance_at-value_at}
use Rattle.deltastep.proofs.rows.known.DistancesKnown.value.Goals as goal

pub returns : goal.returns
returns c = (rw c.from.ensures at c.get.ensures) ∙ distance_at-value_at c.args.self.now c.args.node
