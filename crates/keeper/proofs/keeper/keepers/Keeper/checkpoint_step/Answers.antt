use Rattle.disk.proofs.Steps.{weaker}
use Rattle.keeper.specs.Keeping.{IsDurableIn}
use Rattle.keeper.specs.Parts.{told_step}
use Rattle.keeper.proofs.Lifted.{lift_step, lift_durable}
use Rattle.keeper.proofs.Viewed.{viewed_step}
use Rattle.keeper.proofs.keeper.keepers.Keeper.checkpoint_step.Goals as goal

pub returns-clause-step : goal.returns-clause-step
returns-clause-step g c = rw (← c.self.view_is) (lift_step c.self.inside.shown.version _ c.self.inside.ledger.machine c.checkpoint_step.new.self.machine c.args.pages (told_step c.checkpoint_step.result) c.checkpoint_step.ensures.step)

pub returns-clause-any_moment : goal.returns-clause-any_moment
returns-clause-any_moment g c =
    rw (← c.self.view_is) (λ came calm.
    weaker g.D.Disk.moment g.D.Disk.left_since c.self.inside.ledger.disk c.checkpoint_step.new.self.disk (IsDurableIn c.self.inside.ledger.machine) _
    (c.checkpoint_step.ensures.any_moment came calm)
    (λ d way. lift_durable c.self.inside.shown.version _ c.self.inside.ledger.machine d way))

pub invariant_of-self : goal.invariant_of-self
invariant_of-self g c = viewed_step c.self.inside.shown.version _ c.self.inside.ledger.machine c.checkpoint_step.new.self.machine c.self.inside.shown.network _ c.self.invariant c.args.pages (told_step c.checkpoint_step.result) c.checkpoint_step.ensures.step
