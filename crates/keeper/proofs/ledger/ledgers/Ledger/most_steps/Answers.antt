use Rattle.std.proofs.Common.{arith}
use Rattle.keeper.proofs.ledger.ledgers.Ledger.most_steps.Goals as goal

pub returns-clause-enough : goal.returns-clause-enough
returns-clause-enough g c = rw (← c.self.view_is) (omega (arith, c.version.ensures.room.checkpoint_pages_to))

pub returns-clause-state : goal.returns-clause-state
returns-clause-state g c = rw (← c.self.view_is) c.self.invariant.0.state
