use Rattle.std.proofs.Common.{◌∙◌, inl, inr, refl, sym}
use Rattle.session_lines.specs.SessionLines.{name_of}
use Rattle.sessions.proofs.Answered.{copied}
use Rattle.sessions.proofs.Said.{puts_so}
use Rattle.sessions.proofs.queries.asking.copy_shown.Goals as goal

pub returns-then-not-are_made-clause-told : goal.returns-then-not-are_made-clause-told
returns-then-not-are_made-clause-told g c =
    puts_so g.W.Write.contents _ _ c.tell_fault.result _ _ (inl (sym c.are_made.ensures ∙ c.if-not-are_made.true, refl)) c.tell_fault.ensures

pub returns-in-Ok-clause-told : goal.returns-in-Ok-clause-told
returns-in-Ok-clause-told g c =
    puts_so g.W.Write.contents _ _ c.tell_copied.result _ _
    (copied (g.C.Copies.copying c.args.copies.now) g.S.Naming.Naming.origin _ _ c.in-Ok.glance.view (name_of c.args.name.now) c.copy_by.result (sym c.are_made.ensures ∙ c.if-not-are_made.false) c.in-Ok.ensures.seen c.in-Ok.ensures.view
    c.copy_by.ensures.version c.copy_by.ensures.made c.copy_by.ensures.refused)
    c.tell_copied.ensures

pub returns-in-Err-clause-told : goal.returns-in-Err-clause-told
returns-in-Err-clause-told g c =
    puts_so g.W.Write.contents _ _ c.tell_refusal.result _ _ (inr (sym c.are_made.ensures ∙ c.if-not-are_made.false, inr (c.in-Err.refusal, inl c.in-Err.ensures.causes, refl))) c.tell_refusal.ensures
