use Rattle.std.proofs.Common.{rules}
use Rattle.relax.proofs.crew.CrewTeam.requests.Goals as goal

pub returns : goal.returns
returns g c = search rules
