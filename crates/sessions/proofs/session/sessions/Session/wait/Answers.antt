use Rattle.sessions.proofs.Answered.{ok_shows, ok_shows_none}
use Rattle.sessions.proofs.session.sessions.Session.wait.Goals as goal

pub returns-in-None-clause-shown : goal.returns-in-None-clause-shown
returns-in-None-clause-shown g c = ok_shows_none g.N.Naming.origin _ _ _ (rw c.in-None.is at c.in_ok-shown.ensures.shown) c.version_now.ensures.version

pub returns-in-Some-clause-shown : goal.returns-in-Some-clause-shown
returns-in-Some-clause-shown g c =
    ok_shows g.N.Naming.origin _ c.in-Some.shown _ _ (rw c.in-Some.is at c.in_ok-shown.ensures.shown) c.learn_version.ensures.learned c.learn_version.ensures.version
