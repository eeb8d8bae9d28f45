use Rattle.std.proofs.Common.{◌∙◌, refl, sym}
use Rattle.sessions.proofs.Said.{leaves_as, no_kept, says_alone, says_nothing, says_so, says_text, stays_same}
use Rattle.sessions.proofs.session.sessions.Session.answer_alone.Goals as goal

pub returns-in-Ignored-clause-told : goal.returns-in-Ignored-clause-told
returns-in-Ignored-clause-told g c =
    rw c.in-Ignored.is
    (says_nothing g.W.Write.contents (g.C.Copies.copying c.args.copies.now) g.N.Naming.origin _ _ _ _ c.requires (no_kept _ c.requires) refl (refl, (leaves_as _ _ (stays_same c.args.self.now))))

pub returns-in-Quit-clause-told : goal.returns-in-Quit-clause-told
returns-in-Quit-clause-told g c =
    rw c.in-Quit.is
    (says_nothing g.W.Write.contents (g.C.Copies.copying c.args.copies.now) g.N.Naming.origin _ _ _ _ c.requires (no_kept _ c.requires) refl (refl, (leaves_as _ _ (stays_same c.args.self.now))))

pub returns-in-Begin-clause-told : goal.returns-in-Begin-clause-told
returns-in-Begin-clause-told g c =
    rw c.in-Begin.is
    (says_nothing g.W.Write.contents (g.C.Copies.copying c.args.copies.now) g.N.Naming.origin _ _ _ _ c.requires (sym c.new.ensures.purpose, c.new.ensures.draft) refl (refl, record { last = refl; supposed_is = refl; none_durable = refl }))

pub returns-in-Suppose-clause-told : goal.returns-in-Suppose-clause-told
returns-in-Suppose-clause-told g c =
    rw c.in-Suppose.is
    (says_nothing g.W.Write.contents (g.C.Copies.copying c.args.copies.now) g.N.Naming.origin _ _ _ _ c.requires (sym c.new-in-Suppose.ensures.purpose, c.new-in-Suppose.ensures.draft) refl (refl, record { last = refl; supposed_is = refl; none_durable = refl }))

pub returns-in-End-clause-told : goal.returns-in-End-clause-told
returns-in-End-clause-told g c =
    rw c.in-End.is
    (says_text g.W.Write.contents _ (g.C.Copies.copying c.args.copies.now) g.N.Naming.origin _ _ _ c.tell_fault.result _ _ c.requires (no_kept _ c.requires) refl (refl, (leaves_as _ _ (stays_same c.args.self.now))) c.tell_fault.ensures)

pub returns-in-Unkept-clause-told : goal.returns-in-Unkept-clause-told
returns-in-Unkept-clause-told g c =
    rw c.in-Unkept.is
    (says_text g.W.Write.contents _ (g.C.Copies.copying c.args.copies.now) g.N.Naming.origin _ _ _ c.tell_refusal.result _ _ c.requires (no_kept _ c.requires) refl (refl, (leaves_as _ _ (stays_same c.args.self.now))) c.tell_refusal.ensures)

pub returns-in-Refused-clause-told : goal.returns-in-Refused-clause-told
returns-in-Refused-clause-told g c =
    rw c.in-Refused.is
    (says_text g.W.Write.contents _ (g.C.Copies.copying c.args.copies.now) g.N.Naming.origin _ _ _ c.tell_fault-in-Refused.result _ _ c.requires (no_kept _ c.requires) refl (refl, (leaves_as _ _ (stays_same c.args.self.now))) c.tell_fault-in-Refused.ensures)

pub returns-in-Command-clause-told : goal.returns-in-Command-clause-told
returns-in-Command-clause-told g c =
    rw c.in-Command.is
    (says_alone g.W.Write.contents (g.C.Copies.copying c.args.copies.now) g.N.Naming.origin _ _ _ c.submit.result _ _ c.requires (no_kept _ (c.submit.ensures.group ∙ c.requires)) (rw c.one.ensures at c.submit.ensures.told))

pub returns-in-Query-clause-told : goal.returns-in-Query-clause-told
returns-in-Query-clause-told g c =
    rw c.in-Query.is
    (says_so g.W.Write.contents _ (g.C.Copies.copying c.args.copies.now) g.N.Naming.origin _ _ _ c.query.result _ _ c.requires (no_kept _ (c.query.ensures.stays.group ∙ c.requires)) c.query.ensures.stays.receipts (λ told is. (is, leaves_as _ _ c.query.ensures.stays)) c.query.ensures.told)

pub returns-in-Near-clause-told : goal.returns-in-Near-clause-told
returns-in-Near-clause-told g c =
    rw c.in-Near.is
    (says_so g.W.Write.contents _ (g.C.Copies.copying c.args.copies.now) g.N.Naming.origin _ _ _ c.near.result _ _ c.requires (no_kept _ (c.near.ensures.stays.group ∙ c.requires)) c.near.ensures.stays.receipts (λ told is. (is, leaves_as _ _ c.near.ensures.stays)) c.near.ensures.told)

pub returns-in-Route-clause-told : goal.returns-in-Route-clause-told
returns-in-Route-clause-told g c =
    rw c.in-Route.is
    (says_so g.W.Write.contents _ (g.C.Copies.copying c.args.copies.now) g.N.Naming.origin _ _ _ c.route.result _ _ c.requires (no_kept _ (c.route.ensures.stays.group ∙ c.requires)) c.route.ensures.stays.receipts (λ told is. (is, leaves_as _ _ c.route.ensures.stays)) c.route.ensures.told)

pub returns-in-Table-clause-told : goal.returns-in-Table-clause-told
returns-in-Table-clause-told g c =
    rw c.in-Table.is
    (says_so g.W.Write.contents _ (g.C.Copies.copying c.args.copies.now) g.N.Naming.origin _ _ _ c.table.result _ _ c.requires (no_kept _ (c.table.ensures.stays.group ∙ c.requires)) c.table.ensures.stays.receipts (λ told is. (is, leaves_as _ _ c.table.ensures.stays)) c.table.ensures.told)

pub returns-in-Look-clause-told : goal.returns-in-Look-clause-told
returns-in-Look-clause-told g c =
    rw c.in-Look.is
    (says_so g.W.Write.contents _ (g.C.Copies.copying c.args.copies.now) g.N.Naming.origin _ _ _ c.look_shown.result _ _ c.requires (no_kept _ c.requires) refl (λ told is. (is, record { last = refl; supposed_is = refl; none_durable = refl })) c.look_shown.ensures.told)

pub returns-in-Copy-clause-told : goal.returns-in-Copy-clause-told
returns-in-Copy-clause-told g c =
    rw c.in-Copy.is
    (says_so g.W.Write.contents _ (g.C.Copies.copying c.args.copies.now) g.N.Naming.origin _ _ _ c.copy_shown.result _ _ c.requires (no_kept _ c.requires) refl (λ told is. (is, record { last = refl; supposed_is = refl; none_durable = refl })) c.copy_shown.ensures.told)

pub returns-in-Wait-clause-told : goal.returns-in-Wait-clause-told
returns-in-Wait-clause-told g c =
    rw c.in-Wait.is
    (says_text g.W.Write.contents _ (g.C.Copies.copying c.args.copies.now) g.N.Naming.origin _ _ _ c.tell_version.result _ _ c.requires (no_kept _ (c.wait.ensures.stays.group ∙ c.requires)) c.wait.ensures.stays.receipts ((c.wait.result, c.wait.ensures.shown, c.wait.ensures.causes, refl), leaves_as _ _ c.wait.ensures.stays) c.tell_version.ensures)

pub returns-in-Until-clause-told : goal.returns-in-Until-clause-told
returns-in-Until-clause-told g c =
    rw c.in-Until.is
    (says_text g.W.Write.contents _ (g.C.Copies.copying c.args.copies.now) g.N.Naming.origin _ _ _ c.tell_version-in-Until.result _ _ c.requires (no_kept _ c.requires) refl ((c.wait_until.result, c.wait_until.ensures.reached, c.wait_until.ensures.causes, refl), record { last = refl; supposed_is = refl; none_durable = refl }) c.tell_version-in-Until.ensures)

pub returns-in-State-clause-told : goal.returns-in-State-clause-told
returns-in-State-clause-told g c =
    rw c.in-State.is
    (says_text g.W.Write.contents _ (g.C.Copies.copying c.args.copies.now) g.N.Naming.origin _ _ _ c.tell_state.result _ _ c.requires (no_kept _ c.requires) refl ((c.state.result, c.state.ensures.stood, c.state.ensures.causes, refl), (leaves_as _ _ (stays_same c.args.self.now))) c.tell_state.ensures)

pub returns-in-Forget-clause-told : goal.returns-in-Forget-clause-told
returns-in-Forget-clause-told g c =
    rw c.in-Forget.is
    (says_so g.W.Write.contents _ (g.C.Copies.copying c.args.copies.now) g.N.Naming.origin _ _ _ c.forget.result _ _ c.requires (no_kept _ (c.forget.ensures.group ∙ c.requires)) c.forget.ensures.receipts (λ told is. (is, record { last = c.forget.ensures.last; supposed_is = c.forget.ensures.gone; none_durable = refl })) c.forget.ensures.told)
