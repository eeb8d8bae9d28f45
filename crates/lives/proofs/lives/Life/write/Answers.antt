use Rattle.std.proofs.Common.{◌∙◌, refl, rules}
use Rattle.lives.proofs.Failing.{told_by_write}
use Rattle.lives.proofs.LifeKept.{life_flush, life_checkpoint, moment_later}
use Rattle.lives.proofs.lives.Life.write.Goals as goal

pub invariant_of-self-clause-living : goal.invariant_of-self-clause-living
invariant_of-self-clause-living g c = life_flush _ _ _ _ c.args.self.now.living c.flush.result c.flush.ensures.step

pub invariant_of-self-in-Checkpoint-clause-living : goal.invariant_of-self-in-Checkpoint-clause-living
invariant_of-self-in-Checkpoint-clause-living g c = life_checkpoint _ _ _ _ c.checkpoint.result c.checkpoint.ensures.does c.args.self.now.living

pub returns-in-Flush : goal.returns-in-Flush
returns-in-Flush g c =
    let old = c.args.self.now.keeper.disk in
    record {
      does = search rules;
      delta = refl;
      given = c.flush.ensures.given;
      counted = c.flush.ensures.counted ∙ told_by_write c.flush.result c.told_version.result (g.D.Disk.failures old) c.told_version.ensures;
      later = λ came. moment_later g.D.Disk.moment g.D.Disk.left_since old c.flush.new.self.disk _ _ (c.flush.ensures.any_moment came) c.flush.ensures.adds_nothing;
    }

pub returns-in-Checkpoint : goal.returns-in-Checkpoint
returns-in-Checkpoint g c =
    let old = c.args.self.now.keeper.disk in
    record {
      does = search rules;
      delta = refl;
      given = c.checkpoint.ensures.given;
      counted = c.checkpoint.ensures.counted ∙ told_by_write c.checkpoint.result c.told_version-in-Checkpoint.result (g.D.Disk.failures old) c.told_version-in-Checkpoint.ensures;
      later = λ came. moment_later g.D.Disk.moment g.D.Disk.left_since old c.checkpoint.new.self.disk _ _ (c.checkpoint.ensures.any_moment came) c.checkpoint.ensures.adds_nothing;
    }
