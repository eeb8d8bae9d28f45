use Rattle.sessions.proofs.Answered.{carried_declined}
use Rattle.sessions.proofs.session.sessions.Session.carry_out.Goals as goal

pub returns-in-Err-clause-carried : goal.returns-in-Err-clause-carried
returns-in-Err-clause-carried g c =
    carried_declined g.N.Naming.origin _ _ _ _ c.args.group _ c.settle_refusal.ensures.last (c.settle_refusal.ensures.told c.args.group c.in-Err.ensures.refused)
