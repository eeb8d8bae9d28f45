use Rattle.std.proofs.Common.{subst}
use Rattle.roadnet.specs.Net.{Net}
use Rattle.rows.specs.Views.{AreRight}
use Rattle.rows.proofs.askers.Asker.table.Goals as goal

pub returns-in-Ok-clause-right : goal.returns-in-Ok-clause-right
returns-in-Ok-clause-right g c = subst (λ (net : Net). AreRight net c.args.pairs.now c.in-Ok.replies.items) c.network-network.ensures c.in-Ok.ensures.right
