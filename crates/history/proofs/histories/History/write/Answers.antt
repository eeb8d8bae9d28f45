use Rattle.std.proofs.Common.{rules}
use Rattle.history.proofs.histories.History.write.Goals as goal

pub returns-clause-written : goal.returns-clause-written
returns-clause-written c = search rules
