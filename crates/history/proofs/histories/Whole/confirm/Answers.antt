use Rattle.std.proofs.Common.{rules}
use Rattle.history.proofs.histories.Whole.confirm.Goals as goal

pub returns-clause-acknowledged : goal.returns-clause-acknowledged
returns-clause-acknowledged c = search rules
