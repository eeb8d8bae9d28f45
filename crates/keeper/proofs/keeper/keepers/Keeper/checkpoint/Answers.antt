use Rattle.disk.proofs.Steps.{weaker}
use Rattle.keeper.specs.Keeping.{IsDurableIn}
use Rattle.keeper.proofs.Lifted.{lift_checkpoint, lift_durable}
use Rattle.keeper.proofs.Viewed.{viewed_checkpoint}
use Rattle.keeper.proofs.keeper.keepers.Keeper.checkpoint.Goals as goal

pub returns-clause-does : goal.returns-clause-does
returns-clause-does g c = rw (← c.self.view_is) (lift_checkpoint c.self.inside.shown.version _ c.self.inside.ledger.machine c.checkpoint.new.self.machine c.checkpoint.result c.checkpoint.ensures.does)

pub returns-clause-any_moment : goal.returns-clause-any_moment
returns-clause-any_moment g c =
    rw (← c.self.view_is) (λ came calm.
    weaker g.D.Disk.moment g.D.Disk.left_since c.self.inside.ledger.disk c.checkpoint.new.self.disk (IsDurableIn c.self.inside.ledger.machine) _
    (c.checkpoint.ensures.any_moment came calm)
    (λ d way. lift_durable c.self.inside.shown.version _ c.self.inside.ledger.machine d way))

pub invariant_of-self : goal.invariant_of-self
invariant_of-self g c = viewed_checkpoint c.self.inside.shown.version _ c.self.inside.ledger.machine c.checkpoint.new.self.machine c.self.inside.shown.network _ c.self.invariant c.checkpoint.result c.checkpoint.ensures.does
