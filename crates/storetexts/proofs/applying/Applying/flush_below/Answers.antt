use Rattle.std.proofs.lemmas.Result.{err_from_is_err_and}
use Rattle.storetexts.proofs.Saving.{saves_none, saves_both}
use Rattle.storetexts.proofs.applying.Applying.flush_below.Goals as goal

pub pages-init : goal.pages-init
pages-init g c = record { saves = saves_none g.D.Disk c.args.self.now c.requires.ready }

pub pages-preserved : goal.pages-preserved
pages-preserved g c =
    let before = c.pages.invariant.saves in
    record { saves = saves_both g.D.Disk c.args.self.now c.pages.self c.flush.new.self _ _ before before.counted c.in_ok-flush.ensures.saves }

pub returns-in_err-flush-clause-saves : goal.returns-in_err-flush-clause-saves
returns-in_err-flush-clause-saves g c =
    let before = c.pages.invariant.saves in
    let p = err_from_is_err_and c.from_residual.result c.from_residual.ensures.1 in
    rw (p.1, p.2) (saves_both g.D.Disk c.args.self.now c.pages.self c.flush.new.self _ _ before before.counted c.in_err-flush.ensures.saves)
