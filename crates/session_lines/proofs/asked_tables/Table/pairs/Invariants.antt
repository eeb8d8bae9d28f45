use Rattle.std.proofs.Common.{◌≡◌, take}
use Rattle.session_lines.specs.Tables.{pairs_of}
use Rattle.session_lines.proofs.asked_tables.Table.pairs.Given as goal

abbrev pub invariant-loop-source : goal.invariant-loop-source
invariant-loop-source l = l.pairs.items ≡ pairs_of (take l.source-index l.sources) l.targets
