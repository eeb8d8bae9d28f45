use Rattle.std.proofs.Common.{rules}
use Rattle.upgrades.proofs.renewing.renew.Goals as goal

pub returns-clause-ok : goal.returns-clause-ok
returns-clause-ok c = search rules
