use Rattle.std.proofs.Common.{ℕ, ◌<◌, take, Contains}
use Rattle.std.specs.List.{flat_map}
use Rattle.snapshot.proofs.Named.{named_in}
use Rattle.snapshot.proofs.numbers.changed_arcs.Given as goal

abbrev pub invariant-loop-group : goal.invariant-loop-group
invariant-loop-group l = (k : ℕ) → k < 4294967296 → Contains (flat_map named_in (take l.group-index l.groups)) k → Contains l.numbers.items k
