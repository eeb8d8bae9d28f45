use Rattle.std.proofs.Common.{inr, refl}
use Rattle.sessions.specs.Nearby.{IsTableAnswer}
use Rattle.sessions.proofs.Answered.{told_after}
use Rattle.sessions.proofs.Said.{puts_also, puts_so}
use Rattle.sessions.proofs.queries.finding.pairs_shown.Goals as goal

pub returns-in-Ok-clause-told : goal.returns-in-Ok-clause-told
returns-in-Ok-clause-told g c =
    puts_also g.W.Write.contents _ _ c.answer_table.result _ _ (λ told is. told_after g.S.Naming.Naming.origin _ _ c.in-Ok.glance.view (IsTableAnswer c.args.pairs.now) told c.in-Ok.ensures.seen c.in-Ok.ensures.view is) c.answer_table.ensures

pub returns-in-Err-clause-told : goal.returns-in-Err-clause-told
returns-in-Err-clause-told g c = puts_so g.W.Write.contents _ _ c.tell_refusal.result _ _ (inr (c.in-Err.refusal, c.in-Err.ensures.causes, refl)) c.tell_refusal.ensures
