use Rattle.std.proofs.Common.{refl, ap}
use Rattle.std.proofs.lemmas.Result.{err_from_is_err_and}
use Rattle.keeper.proofs.Flushed.{if_err_with}
use Rattle.storetexts.proofs.Checkpointed.{pending_checkpoint, free_checkpoint, calm_then}
use Rattle.storetexts.proofs.Saving.{saves_checkpoint}
use Rattle.storetexts.proofs.applying.Applying.checkpoint.Goals as goal

pub returns-clause-saves : goal.returns-clause-saves
returns-clause-saves g c =
    saves_checkpoint g.D.Disk _ _ c.checkpoint.result _ c.requires.ready refl refl c.checkpoint.ensures.given c.checkpoint.ensures.honest
    (calm_then c.args.self.now.ledger.machine c.checkpoint.new.self.machine c.in_ok-checkpoint.field-0 c.in_ok-checkpoint.ensures.does) c.in_ok-checkpoint.ensures.counted c.checkpoint.ensures.does
    (if_err_with _ _ c.checkpoint.result (λ refusal same not. ap (λ k. k.machine) (same not)) c.checkpoint.ensures.same) c.checkpoint.ensures.any_moment

pub returns-in_err-checkpoint-clause-saves : goal.returns-in_err-checkpoint-clause-saves
returns-in_err-checkpoint-clause-saves g c =
    let p = err_from_is_err_and c.from_residual.result c.from_residual.ensures.1 in
    rw (p.1, p.2)
    (saves_checkpoint g.D.Disk _ _ c.checkpoint.result _ c.requires.ready refl refl c.checkpoint.ensures.given c.checkpoint.ensures.honest tt c.in_err-checkpoint.ensures.counted c.checkpoint.ensures.does
    (if_err_with _ _ c.checkpoint.result (λ refusal same not. ap (λ k. k.machine) (same not)) c.checkpoint.ensures.same) c.checkpoint.ensures.any_moment)

pub returns-clause-pending : goal.returns-clause-pending
returns-clause-pending g c = pending_checkpoint c.args.self.now.ledger.machine c.checkpoint.new.self.machine c.checkpoint.result c.checkpoint.ensures.does

pub returns-in_err-checkpoint-clause-pending : goal.returns-in_err-checkpoint-clause-pending
returns-in_err-checkpoint-clause-pending g c = pending_checkpoint c.args.self.now.ledger.machine c.checkpoint.new.self.machine c.checkpoint.result c.checkpoint.ensures.does

pub returns-clause-free : goal.returns-clause-free
returns-clause-free g c =
    free_checkpoint c.args.self.now.ledger.machine c.checkpoint.new.self.machine c.in_ok-checkpoint.field-0 c.in_ok-checkpoint.ensures.does c.requires.ready.calm c.requires.ready.steady
