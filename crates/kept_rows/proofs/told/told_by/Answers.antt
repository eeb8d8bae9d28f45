use Rattle.std.proofs.Common.{rules}
use Rattle.kept_rows.proofs.told.told_by.Goals as goal

pub returns : goal.returns
returns c = search rules
