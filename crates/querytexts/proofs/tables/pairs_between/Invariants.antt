use Rattle.std.proofs.Common.{◌≡◌, take}
use Rattle.querytexts.specs.Table.{pairs_between}
use Rattle.querytexts.proofs.tables.pairs_between.Given as goal

abbrev pub invariant-loop-source : goal.invariant-loop-source
invariant-loop-source l = l.pairs.items ≡ pairs_between (take l.source-index l.sources) l.targets
