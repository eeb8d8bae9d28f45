use Rattle.std.proofs.Common.{◌≡◌, length}
use Rattle.snapshot.proofs.index.arcs_by_block.Given as goal

abbrev pub invariant-loop-place : goal.invariant-loop-place
invariant-loop-place g l = length l.counts.items ≡ l.count
