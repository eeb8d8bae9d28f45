use Rattle.keeper.specs.Parts.{ticket_for}
use Rattle.lives.proofs.LifeKept.{life_submit}
use Rattle.lives.proofs.lives.Life.submit.Goals as goal

pub invariant_of-self-clause-living : goal.invariant_of-self-clause-living
invariant_of-self-clause-living g c = life_submit _ _ _ _ c.args.self.now.living c.args.group.now (ticket_for c.args.group.now c.submit_copy.result) c.submit_copy.ensures.step
