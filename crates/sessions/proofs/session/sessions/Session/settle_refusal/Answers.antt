use Rattle.std.proofs.Common.{rules, Some, refl}
use Rattle.sessions.proofs.Based.{declined_closed, declined_settled, declined_unsettled}
use Rattle.sessions.proofs.session.sessions.Session.settle_refusal.Goals as goal

pub returns-in_default-clause-told : goal.returns-in_default-clause-told
returns-in_default-clause-told g c group refused = declined_closed g.N.Naming.origin _ _ group c.args.refused.refusal refl (search rules)

pub returns-in-Ok-clause-told : goal.returns-in-Ok-clause-told
returns-in-Ok-clause-told g c group refused =
    declined_settled g.N.Naming.origin c.args.self.now.receipts (Some c.with_front.result) group c.args.refused.refusal c.in-Some.basis c.in-Ok.front c.in-Ok.ensures.origin (search rules)
    (c.with_front.ensures.kept c.in-Some.basis.groups c.in-Ok.ensures.begins (search rules))

pub returns-clause-told : goal.returns-clause-told
returns-clause-told g c group refused = declined_unsettled g.N.Naming.origin _ _ group c.args.refused.refusal _ c.in-Some.basis refl (search rules) c.in-Err.ensures.causes
