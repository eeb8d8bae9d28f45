use Rattle.std.proofs.lemmas.Result.{err_from_is_err_and}
use Rattle.rehearsals.proofs.BrokenOff.{unmade_passing}
use Rattle.rehearsals.proofs.NewRuns.{replies_to, run_ends_passing}
use Rattle.rehearsals.proofs.running.rehearsed.Goals as goal

pub returns-clause-run : goal.returns-clause-run
returns-clause-run g c honest =
    let made = c.in_ok-store.ensures in
    replies_to c.in_ok-store.store _ c.args.network.now c.args.journal_pages _ c.args.events.now _ _ _ made.checkpoint_pages made.network made.version made.unchecked made.journal_pages
    (c.rehearse.ensures.lives (rw made.given (made.honest.0.1 honest, made.tidy honest)))

pub returns-clause-ended : goal.returns-clause-ended
returns-clause-ended g c honest = run_ends_passing c.args.network.now c.args.journal_pages c.args.events.now _ _ (returns-clause-run g c honest)

pub returns-in_err-store-clause-refused : goal.returns-in_err-store-clause-refused
returns-in_err-store-clause-refused g c honest empty =
    let p = err_from_is_err_and c.from_residual.result c.from_residual.ensures.1 in
    let refused = c.in_err-store.ensures in
    rw (p.1, p.2) (unmade_passing _ (λ is. refused.not_empty honest is empty) refused.refused)
