use Rattle.std.proofs.Common.{◌∙◌, refl, ap, arith}
use Rattle.std.proofs.lemmas.Result.{err_from_is_err_and}
use Rattle.machine.specs.Machine.{Machine}
use Rattle.storetexts.proofs.Stepping.{fewer_flush}
use Rattle.storetexts.proofs.Saving.{saves_flush, saves_both}
use Rattle.storetexts.proofs.applying.Applying.flush_anew.Goals as goal

pub returns-clause-saves : goal.returns-clause-saves
returns-clause-saves g c =
    let calm = c.in_ok-checkpoint.ensures.saves.calm in
    saves_both g.D.Disk c.args.self.now c.checkpoint.new.self _ _ _ c.in_ok-checkpoint.ensures.saves c.in_ok-checkpoint.ensures.saves.counted
    (saves_flush g.D.Disk c.checkpoint.new.self _ c.flush.result _ (record { steady = c.checkpoint.ensures.saves.goes.steady; calm = calm }) refl refl c.flush.ensures.given c.flush.ensures.honest
    (ap (λ (m : Machine). m.broken) c.in_ok-flush.ensures.step.1 ∙ calm) c.in_ok-flush.ensures.counted c.flush.ensures.step c.flush.ensures.any_moment)

pub returns-in_err-flush-clause-saves : goal.returns-in_err-flush-clause-saves
returns-in_err-flush-clause-saves g c =
    let p = err_from_is_err_and c.from_residual-in_err-flush.result c.from_residual-in_err-flush.ensures.1 in
    rw (p.1, p.2)
    (saves_both g.D.Disk c.args.self.now c.checkpoint.new.self _ _ _ c.in_ok-checkpoint.ensures.saves c.in_ok-checkpoint.ensures.saves.counted
    (saves_flush g.D.Disk c.checkpoint.new.self _ c.flush.result _ (record { steady = c.checkpoint.ensures.saves.goes.steady; calm = c.in_ok-checkpoint.ensures.saves.calm }) refl refl c.flush.ensures.given c.flush.ensures.honest
    tt c.in_err-flush.ensures.counted c.flush.ensures.step c.flush.ensures.any_moment))

pub returns-clause-fewer : goal.returns-clause-fewer
returns-clause-fewer g c =
    let same = c.checkpoint.ensures.pending in
    let less = fewer_flush c.checkpoint.new.self.ledger.machine c.flush.new.self.machine _ c.checkpoint.ensures.saves.goes.steady.state c.in_ok-flush.ensures.step (omega (arith, same, c.requires.some)) in
    omega (arith, same, less)
