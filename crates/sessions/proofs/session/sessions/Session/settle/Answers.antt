use Rattle.std.proofs.Common.{rules, Some}
use Rattle.sessions.proofs.Answered.{carried_durable, carried_unsettled}
use Rattle.sessions.proofs.session.sessions.Session.settle.Goals as goal

pub returns-in-Ok-clause-carried : goal.returns-in-Ok-clause-carried
returns-in-Ok-clause-carried g c =
    carried_durable g.N.Naming.origin c.in-Ok.receipt _ c.args.self.now.receipts (Some c.with_receipt.result) _ _ (search rules) (search rules) (search rules) c.with_receipt.ensures.kept

pub returns-in-Err-clause-carried : goal.returns-in-Err-clause-carried
returns-in-Err-clause-carried g c =
    carried_unsettled g.N.Naming.origin _ _ _ _ _ _ (search rules) (search rules) (search rules) (search rules)
