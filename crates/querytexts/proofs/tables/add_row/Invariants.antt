use Rattle.std.proofs.Common.{◌≡◌, ◌++◌, take}
use Rattle.querytexts.specs.Table.{pairs_from}
use Rattle.querytexts.proofs.tables.add_row.Given as goal

abbrev pub invariant-loop-target : goal.invariant-loop-target
invariant-loop-target l = l.pairs.items ≡ l.initial.pairs.items ++ pairs_from l.source (take l.target-index l.targets)
