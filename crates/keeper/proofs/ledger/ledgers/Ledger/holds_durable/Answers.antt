use Rattle.keeper.proofs.ledger.ledgers.Ledger.holds_durable.Goals as goal

pub returns : goal.returns
returns g c = rw (← c.self.view_is) c.self.invariant.2
