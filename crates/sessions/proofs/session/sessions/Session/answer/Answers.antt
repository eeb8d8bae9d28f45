use Rattle.std.proofs.Common.{rules, ◌≡◌, ◌∙◌, None, Some, refl, sym}
use Rattle.sessions.specs.declared.session.sessions.Purpose.TheVariants.{ToCarryOut, ToSuppose}
use Rattle.sessions.proofs.Said.{held_back, says_end, says_taken}
use Rattle.sessions.proofs.session.sessions.Session.answer.Goals as goal

pub returns-in_default-clause-told : goal.returns-in_default-clause-told
returns-in_default-clause-told g c =
    let none : c.args.self.now.group ≡ None = search rules in
    let gone : c.take.new.self ≡ None = search rules in
    says_taken g.W.Write.contents (g.C.Copies.copying c.args.copies.now) g.N.Naming.origin c.args.line _ _ _ c.answer_alone.result _ _ (gone ∙ sym none) refl refl c.answer_alone.ensures.told

pub returns-then-not-is_end-clause-told : goal.returns-then-not-is_end-clause-told
returns-then-not-is_end-clause-told g c =
    let some : c.args.self.now.group ≡ Some c.in-Some.group = cc in
    held_back g.W.Write.contents _ g.N.Naming.origin c.args.line _ _ c.in-Some.group c.with.result _ (λ e. let end = sym c.if-not-is_end.true ∙ c.is_end.ensures.1 e in absurd cc) some refl c.with.ensures.purpose c.with.ensures.draft refl
    (record { last = refl; supposed_is = refl; none_durable = refl })

pub returns-in-ToCarryOut-clause-told : goal.returns-in-ToCarryOut-clause-told
returns-in-ToCarryOut-clause-told g c =
    let some : c.args.self.now.group ≡ Some c.in-Some.group = cc in
    says_end g.W.Write.contents (g.C.Copies.copying c.args.copies.now) g.N.Naming.origin c.args.line _ _ _ c.in-Some.group ToCarryOut c.end_carried.result _ _ (c.is_end.ensures.0 c.if-not-is_end.false) some (search rules) c.in-ToCarryOut.is refl refl c.end_carried.ensures.told

pub returns-clause-told : goal.returns-clause-told
returns-clause-told g c =
    let some : c.args.self.now.group ≡ Some c.in-Some.group = cc in
    says_end g.W.Write.contents (g.C.Copies.copying c.args.copies.now) g.N.Naming.origin c.args.line _ _ _ c.in-Some.group ToSuppose c.end_supposed.result _ _ (c.is_end.ensures.0 c.if-not-is_end.false) some (search rules) c.in-ToSuppose.is refl refl c.end_supposed.ensures.told
