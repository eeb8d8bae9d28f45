use Rattle.std.proofs.Common.{rules, ◌≡◌, None, Some, refl}
use Rattle.sessions.proofs.Said.{puts_so}
use Rattle.sessions.proofs.session.sessions.Session.forget.Goals as goal

pub returns-in-Some-clause-told : goal.returns-in-Some-clause-told
returns-in-Some-clause-told g c =
    let some : c.args.self.now.supposed ≡ Some c.in-Some.supposed = cc in
    rw some (puts_so g.W.Write.contents _ _ c.tell_forgotten.result _ _ refl c.tell_forgotten.ensures)

pub returns-in-None-clause-told : goal.returns-in-None-clause-told
returns-in-None-clause-told g c =
    let nothing : c.args.self.now.supposed ≡ None = search rules in
    rw nothing (puts_so g.W.Write.contents _ _ c.tell_fault.result _ _ refl c.tell_fault.ensures)
