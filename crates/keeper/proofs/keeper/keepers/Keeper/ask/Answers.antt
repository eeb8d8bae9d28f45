use Rattle.std.proofs.Common.{refl}
use Rattle.keeper.proofs.Answering.{asked, unanswered}
use Rattle.keeper.proofs.keeper.keepers.Keeper.ask.Goals as goal

pub returns-clause-step : goal.returns-clause-step
returns-clause-step g c =
    rw (← c.self.view_is, c.answer.ensures.same)
    (asked _ _ _ c.args.query c.self.inside.shown.version c.self.inside.shown.network (record { version = c.version-version.result; reply = c.in_ok-reply.reply }) c.self.invariant refl refl c.version-version.ensures c.in_ok-reply.ensures.right)

pub returns-in_err-reply-clause-step : goal.returns-in_err-reply-clause-step
returns-in_err-reply-clause-step g c =
    rw (← c.self.view_is, c.answer.ensures.same)
    (unanswered _ _ _ c.args.query c.self.inside.shown.network c.from_residual.result c.from_residual.ensures.0 c.self.invariant refl
    (λ some. let never = c.in_err-reply.ensures.refused some in cc)
    (λ l t is. let never = c.in_err-reply.ensures.landmark l t is in cc)
    (λ s t is. let never = c.in_err-reply.ensures.lower s t is in cc))
