-- A store that is not opened is told of by its own refusal.
use Rattle.std.proofs.Common.{refl, inl, inr}
use Rattle.file_jobs.proofs.store_jobs.after_opening.Goals as goal

pub returns-in-Ok : goal.returns-in-Ok
returns-in-Ok g c = λ honest. let stands = c.in-Ok.ensures.stands honest in inl ((c.in-Ok.field-0.network, c.in-Ok.field-0.version, stands.0, stands.1), refl)

pub returns : goal.returns
returns g c = λ honest. inr (c.in-Err.refusal, refl, c.in-Err.ensures.judged honest)
