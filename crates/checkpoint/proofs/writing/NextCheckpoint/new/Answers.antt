use Rattle.std.proofs.Common.{rules}
use Rattle.checkpoint.proofs.writing.NextCheckpoint.new.Goals as goal

pub returns : goal.returns
returns c = search rules
