use Rattle.std.proofs.Common.{◌∙◌, sym}
use Rattle.sessions.proofs.Said.{tells_asking, tells_carried}
use Rattle.sessions.proofs.session.sessions.Session.submit.Goals as goal

pub returns-then-not-may_change-clause-told : goal.returns-then-not-may_change-clause-told
returns-then-not-may_change-clause-told g c =
    tells_asking g.W.Write.contents _ g.N.Naming.origin c.args.group c.args.self.now c.tell_asks_alone.result _ _ (sym c.may_change.ensures ∙ c.if-not-may_change.true) c.tell_asks_alone.ensures

pub returns-clause-told : goal.returns-clause-told
returns-clause-told g c =
    tells_carried g.W.Write.contents _ g.N.Naming.origin c.args.group _ _ c.carry_out.result c.tell_reply.result _ _ (sym c.may_change.ensures ∙ c.if-not-may_change.false) c.carry_out.ensures.supposed c.carry_out.ensures.carried c.tell_reply.ensures
