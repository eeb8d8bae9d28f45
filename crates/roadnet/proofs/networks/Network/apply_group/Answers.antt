use Rattle.std.proofs.Common.{rules}
use Rattle.roadnet.proofs.networks.Network.apply_group.Goals as goal

pub returns-clause-ok : goal.returns-clause-ok
returns-clause-ok c = search rules
