use Rattle.keeper.proofs.keeper.keepers.Keeper.arm.Goals as goal

pub returns-clause-arms : goal.returns-clause-arms
returns-clause-arms g c = rw (← c.self.view_is) c.arm.ensures.arms
