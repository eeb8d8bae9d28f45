use Rattle.roadnet.proofs.Reversed.{IsNetwork-reversed}
use Rattle.rows.proofs.turning.ReversedRoads.node_count.Goals as goal

pub returns-clause-network : goal.returns-clause-network
returns-clause-network c = IsNetwork-reversed c.args.self.now.network.now c.nodes.ensures.network
