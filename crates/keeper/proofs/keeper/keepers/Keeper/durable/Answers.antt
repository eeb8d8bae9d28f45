use Rattle.keeper.proofs.Lifted.{lift_holds}
use Rattle.keeper.proofs.keeper.keepers.Keeper.durable.Goals as goal

pub returns-clause-holds : goal.returns-clause-holds
returns-clause-holds g c = rw (← c.self.view_is) (λ came. lift_holds c.self.inside.shown.version _ (g.D.Disk.content c.self.inside.ledger.disk) (g.D.Disk.left c.self.inside.ledger.disk) c.self.inside.ledger.machine (c.durable.ensures.holds came))
