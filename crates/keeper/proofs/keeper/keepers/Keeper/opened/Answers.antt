use Rattle.keeper.proofs.keeper.keepers.Keeper.opened.Goals as goal

pub returns-clause-state : goal.returns-clause-state
returns-clause-state g c = rw (← c.self.view_is) c.self.invariant.state
