use Rattle.rows.proofs.Numbering.{IsNetwork-numbered}
use Rattle.rows.proofs.backs.WithNumbersRoads.node_count.Goals as goal

pub returns-clause-network : goal.returns-clause-network
returns-clause-network c = IsNetwork-numbered c.args.self.now.network.now c.nodes.ensures.network
