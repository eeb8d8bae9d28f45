use Rattle.std.proofs.Common.{refl}
use Rattle.sessions.proofs.Said.{ends_faulty, ends_unkept, ends_whole, leaves_as, stays_same, tells_also, tells_text}
use Rattle.sessions.proofs.session.sessions.Session.end_carried.Goals as goal

pub returns-in-Ok-clause-told : goal.returns-in-Ok-clause-told
returns-in-Ok-clause-told g c =
    tells_also g.W.Write.contents _ _ g.N.Naming.origin _ _ c.submit.result _ _
    (λ told durable so. ends_whole (g.C.Copies.copying c.args.copies.now) g.N.Naming.origin _ _ c.args.draft c.in-Ok.group told durable (λ draft is. rw c.in-Ok.is at c.end.ensures draft is) so)
    c.submit.ensures.told

pub returns-in-Err-Fault-clause-told : goal.returns-in-Err-Fault-clause-told
returns-in-Err-Fault-clause-told g c =
    tells_text g.W.Write.contents _ _ g.N.Naming.origin _ _ c.tell_fault.result _ _ refl
    (ends_faulty (g.C.Copies.copying c.args.copies.now) g.N.Naming.origin _ _ c.args.draft c.in-Err-Fault.code (λ draft is. rw c.in-Err-Fault.field-0-is at rw c.in-Err-Fault.is at c.end.ensures draft is) (leaves_as _ _ (stays_same c.args.self.now)))
    c.tell_fault.ensures

pub returns-in-Err-NoMemory-clause-told : goal.returns-in-Err-NoMemory-clause-told
returns-in-Err-NoMemory-clause-told g c =
    tells_text g.W.Write.contents _ _ g.N.Naming.origin _ _ c.tell_refusal.result _ _ refl
    (ends_unkept (g.C.Copies.copying c.args.copies.now) g.N.Naming.origin _ _ c.args.draft (λ draft is. rw c.in-Err-NoMemory.field-0-is at rw c.in-Err-NoMemory.is at c.end.ensures draft is) (leaves_as _ _ (stays_same c.args.self.now)))
    c.tell_refusal.ensures
