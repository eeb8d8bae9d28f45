use Rattle.std.proofs.Common.{rules}
use Rattle.checkpoint.proofs.heads.greater.Goals as goal

pub returns-in-Some-Some-2-clause-slot : goal.returns-in-Some-Some-2-clause-slot
returns-in-Some-Some-2-clause-slot c = search rules
