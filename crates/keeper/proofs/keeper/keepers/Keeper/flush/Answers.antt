use Rattle.disk.proofs.Steps.{weaker}
use Rattle.keeper.specs.Keeping.{IsLeftByFlush}
use Rattle.keeper.proofs.Lifted.{lift_flush, lift_left}
use Rattle.keeper.proofs.Viewed.{viewed_flush}
use Rattle.keeper.proofs.keeper.keepers.Keeper.flush.Goals as goal

pub returns-clause-step : goal.returns-clause-step
returns-clause-step g c = rw (← c.self.view_is) (lift_flush c.self.inside.shown.version _ c.self.inside.ledger.machine c.flush.new.self.machine c.flush.result c.flush.ensures.step)

pub returns-clause-any_moment : goal.returns-clause-any_moment
returns-clause-any_moment g c =
    rw (← c.self.view_is) (λ came calm.
    weaker g.D.Disk.moment g.D.Disk.left_since c.self.inside.ledger.disk c.flush.new.self.disk (IsLeftByFlush c.self.inside.ledger.machine) _
    (c.flush.ensures.any_moment came calm)
    (λ d way. lift_left c.self.inside.shown.version _ c.self.inside.ledger.machine d way))

pub invariant_of-self : goal.invariant_of-self
invariant_of-self g c = viewed_flush c.self.inside.shown.version _ c.self.inside.ledger.machine c.flush.new.self.machine c.self.inside.shown.network _ c.self.invariant c.flush.result c.flush.ensures.step
