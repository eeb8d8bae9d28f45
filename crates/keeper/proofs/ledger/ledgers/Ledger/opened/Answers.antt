use Rattle.keeper.proofs.ledger.ledgers.Ledger.opened.Goals as goal

pub returns-clause-state : goal.returns-clause-state
returns-clause-state g c = rw (← c.self.view_is) c.self.invariant.0.state
