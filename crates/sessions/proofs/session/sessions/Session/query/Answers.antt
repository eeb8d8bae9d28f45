use Rattle.sessions.proofs.Said.{puts_so}
use Rattle.std.proofs.Common.{refl}
use Rattle.sessions.proofs.session.sessions.Session.query.Goals as goal

pub returns-in-Some-clause-told : goal.returns-in-Some-clause-told
returns-in-Some-clause-told g c = rw c.in-Some.is c.query_supposed.ensures.told

pub returns-in-None-clause-told : goal.returns-in-None-clause-told
returns-in-None-clause-told g c = rw c.in-None.is (puts_so g.W.Write.contents _ _ c.tell_reply.result _ _ (c.ask.result, c.ask.ensures.right, refl) c.tell_reply.ensures)
