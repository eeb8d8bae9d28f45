use Rattle.sessions.proofs.Answered.{on_any_ok}
use Rattle.sessions.proofs.session.seeing.learn_version.Goals as goal

pub returns-clause-learned : goal.returns-clause-learned
returns-clause-learned g c = on_any_ok c.version_since.result c.version_since.ensures.learned
