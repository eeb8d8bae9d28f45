use Rattle.std.proofs.Common.{refl}
use Rattle.shared_network.proofs.networks.SharedNetwork.admit_groups.Goals as goal

pub returns : goal.returns
returns c = c.admit_all.ensures c.args.self.now c.nodes-nodes.ensures.network refl
