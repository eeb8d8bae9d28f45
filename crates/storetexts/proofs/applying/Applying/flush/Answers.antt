use Rattle.std.proofs.Common.{◌∙◌, refl, ap}
use Rattle.machine.specs.Machine.{Machine}
use Rattle.storetexts.proofs.Stepping.{fewer_flush}
use Rattle.storetexts.proofs.Saving.{saves_flush}
use Rattle.storetexts.proofs.applying.Applying.flush.Goals as goal

pub returns-in-Ok-clause-saves : goal.returns-in-Ok-clause-saves
returns-in-Ok-clause-saves g c =
    saves_flush g.D.Disk _ _ c.flush.result _ c.requires.ready refl refl c.flush.ensures.given c.flush.ensures.honest (ap (λ (m : Machine). m.broken) c.in-Ok.ensures.step.1 ∙ c.requires.ready.calm) c.in-Ok.ensures.counted
    c.flush.ensures.step c.flush.ensures.any_moment

pub returns-in-Err-clause-saves : goal.returns-in-Err-clause-saves
returns-in-Err-clause-saves g c =
    saves_flush g.D.Disk _ _ c.flush.result _ c.requires.ready refl refl c.flush.ensures.given c.flush.ensures.honest tt c.in-Err.ensures.counted c.flush.ensures.step c.flush.ensures.any_moment

pub returns-in-Ok-clause-fewer : goal.returns-in-Ok-clause-fewer
returns-in-Ok-clause-fewer g c = fewer_flush c.args.self.now.ledger.machine c.flush.new.self.machine _ c.requires.ready.steady.state c.in-Ok.ensures.step c.requires.some
