use Rattle.std.proofs.Common.{inl, inr, refl}
use Rattle.roadnet.specs.declared.refusals.Refusal.TheVariants.{OutOfMemory}
use Rattle.sessions.proofs.Supposed.{not_of_lines, of_lines, tells_fault, tells_refused, tells_supposed}
use Rattle.sessions.proofs.session.sessions.Session.end_supposed.Goals as goal

pub returns-in-Err-Fault-clause-told : goal.returns-in-Err-Fault-clause-told
returns-in-Err-Fault-clause-told g c =
    tells_fault g.W.Write.contents g.N.Naming.origin _ _ c.args.draft c.tell_fault.result _ _ refl refl c.in-Err-Fault.code refl (λ draft is. rw c.in-Err-Fault.field-0-is at rw c.in-Err-Fault.is at c.end.ensures draft is) (rw c.in-Err-Fault.field-0-is at c.tell_fault.ensures)

pub returns-in-Err-NoMemory-clause-told : goal.returns-in-Err-NoMemory-clause-told
returns-in-Err-NoMemory-clause-told g c =
    tells_refused g.W.Write.contents g.N.Naming.origin _ _ c.args.draft c.tell_refusal.result _ _ refl refl OutOfMemory refl
    (λ draft is. (rw c.in-Err-NoMemory.field-0-is at rw c.in-Err-NoMemory.is at c.end.ensures draft is, inr (inr (inl refl)))) c.tell_refusal.ensures

pub returns-in-Ok-suppose-clause-told : goal.returns-in-Ok-suppose-clause-told
returns-in-Ok-suppose-clause-told g c =
    tells_supposed g.W.Write.contents g.N.Naming.origin _ _ c.args.draft c.tell_supposed.result _ _ refl refl c.in-Ok-suppose.made c.version-version.result refl c.version-version.ensures
    (λ draft is. of_lines g.N.Naming.origin _ draft c.in-Ok.group c.in-Ok-suppose.made (rw c.in-Ok.is at c.end.ensures draft is) c.in-Ok-suppose.ensures.supposed) c.tell_supposed.ensures

pub returns-clause-told : goal.returns-clause-told
returns-clause-told g c =
    tells_refused g.W.Write.contents g.N.Naming.origin _ _ c.args.draft c.tell_refusal-in-Err.result _ _ refl refl c.in-Err.refusal refl
    (λ draft is. not_of_lines g.N.Naming.origin _ draft c.in-Ok.group c.in-Err.refusal (rw c.in-Ok.is at c.end.ensures draft is) c.in-Err.ensures.causes) c.tell_refusal-in-Err.ensures
