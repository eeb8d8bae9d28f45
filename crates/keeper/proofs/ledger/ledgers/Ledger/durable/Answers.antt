use Rattle.keeper.proofs.ledger.ledgers.Ledger.durable.Goals as goal

pub returns-clause-honest : goal.returns-clause-honest
returns-clause-honest g c = rw (← c.self.view_is) (λ came. (c.self.invariant.2 came).0)

pub returns-clause-holds : goal.returns-clause-holds
returns-clause-holds g c = rw (← c.self.view_is) (λ came. (c.self.invariant.2 came).1)
