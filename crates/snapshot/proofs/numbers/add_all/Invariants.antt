use Rattle.std.proofs.Common.{ℕ, ◌<◌, take, Contains}
use Rattle.std.specs.List.{flat_map}
use Rattle.snapshot.specs.Changes.{named_by}
use Rattle.snapshot.proofs.numbers.add_all.Given as goal

abbrev pub invariant-loop-command : goal.invariant-loop-command
invariant-loop-command l = record {
  kept : (k : ℕ) → Contains l.fn.numbers.items k → Contains l.numbers.items k;
  named : (k : ℕ) → k < 4294967296 → Contains (flat_map named_by (take l.command-index l.commands)) k → Contains l.numbers.items k;
}
