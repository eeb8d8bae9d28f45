use Rattle.sessions.proofs.Answered.{answered}
use Rattle.sessions.proofs.queries.asking.answer_by.Goals as goal

pub returns-clause-right : goal.returns-clause-right
returns-clause-right g c =
    answered g.S.Naming.Naming.origin c.in_ok-glance.glance.known.groups _ c.in_ok-glance.glance.view c.args.query _ _ c.in_ok-glance.ensures.seen c.in_ok-glance.ensures.view c.version-version.ensures.version c.in_ok-reply.ensures.right
