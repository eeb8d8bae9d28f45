use Rattle.keeper.specs.Parts.{ticket_for}
use Rattle.keeper.proofs.Lifted.{lift_submit}
use Rattle.keeper.proofs.Viewed.{viewed_submit}
use Rattle.keeper.proofs.keeper.keepers.Keeper.submit_copy.Goals as goal

pub returns-clause-step : goal.returns-clause-step
returns-clause-step g c = rw (← c.self.view_is) (lift_submit c.self.inside.shown.version _ c.self.inside.ledger.machine c.submit_copy.new.self.machine c.args.group.now (ticket_for c.args.group.now c.submit_copy.result) c.submit_copy.ensures.step)

pub invariant_of-self : goal.invariant_of-self
invariant_of-self g c = viewed_submit c.self.inside.shown.version _ c.self.inside.ledger.machine c.submit_copy.new.self.machine c.self.inside.shown.network _ c.self.invariant c.args.group.now (ticket_for c.args.group.now c.submit_copy.result) c.submit_copy.ensures.step
