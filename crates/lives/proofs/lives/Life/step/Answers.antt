use Rattle.std.proofs.Common.{◌∙◌, ℕ, refl, subst}
use Rattle.std.specs.Prelude.{option_map}
use Rattle.machine.specs.Calls.{StepsCheckpoint}
use Rattle.keeper.specs.Parts.{told_step}
use Rattle.lives.proofs.Failing.{told_by_part}
use Rattle.lives.proofs.LifeKept.{life_step, moment_later}
use Rattle.lives.proofs.lives.Life.step.Goals as goal

pub returns : goal.returns
returns g c =
    let old = c.args.self.now.keeper in
    let new = c.checkpoint_step.new.self in
    let told = told_step c.checkpoint_step.result in
    record {
      does = (told, subst (λ (n : ℕ). StepsCheckpoint old.machine n told new.machine) c.number.ensures.is c.checkpoint_step.ensures.step, c.told_part.ensures);
      delta = refl;
      given = c.checkpoint_step.ensures.given;
      counted = c.checkpoint_step.ensures.counted ∙ told_by_part c.checkpoint_step.result c.told_part.result (g.D.Disk.failures old.disk) c.told_part.ensures;
      later = λ came. moment_later g.D.Disk.moment g.D.Disk.left_since old.disk new.disk _ _ (c.checkpoint_step.ensures.any_moment came) c.checkpoint_step.ensures.adds_nothing;
    }

pub invariant_of-self-clause-living : goal.invariant_of-self-clause-living
invariant_of-self-clause-living g c =
    let old = c.args.self.now.keeper.machine in
    let new = c.checkpoint_step.new.self.machine in
    life_step old new c.args.self.now.opened (option_map (λ view. (view.value.version, view.value.network)) c.args.self.now.aside) c.number.result (told_step c.checkpoint_step.result)
    c.checkpoint_step.ensures.step c.args.self.now.living
