use Rattle.sessions.proofs.Answered.{reached}
use Rattle.sessions.proofs.session.seeing.wait_until.Goals as goal

pub returns-clause-reached : goal.returns-clause-reached
returns-clause-reached g c =
    reached g.S.Naming.Naming.origin c.args.number c.in_ok-shown.shown.groups _ _ c.in_ok-shown.ensures.there c.learn_version.ensures.learned c.learn_version.ensures.version
