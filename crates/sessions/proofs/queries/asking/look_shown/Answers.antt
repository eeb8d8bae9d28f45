use Rattle.std.proofs.Common.{inr, refl}
use Rattle.sessions.proofs.Answered.{looked}
use Rattle.sessions.proofs.Said.{puts_so}
use Rattle.sessions.proofs.queries.asking.look_shown.Goals as goal

pub returns-in-Ok-clause-told : goal.returns-in-Ok-clause-told
returns-in-Ok-clause-told g c =
    puts_so g.W.Write.contents _ _ c.tell_look.result _ _ (looked g.S.Naming.Naming.origin _ _ c.in-Ok.glance.view c.args.look c.in-Ok.ensures.seen c.in-Ok.ensures.view) c.tell_look.ensures

pub returns-in-Err-clause-told : goal.returns-in-Err-clause-told
returns-in-Err-clause-told g c = puts_so g.W.Write.contents _ _ c.tell_refusal.result _ _ (inr (c.in-Err.refusal, c.in-Err.ensures.causes, refl)) c.tell_refusal.ensures
