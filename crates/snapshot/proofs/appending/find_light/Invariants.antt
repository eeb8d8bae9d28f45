use Rattle.std.proofs.Common.{◌≤◌}
use Rattle.std.specs.List.{All}
use Rattle.snapshot.specs.Blocks.{block_parts}
use Rattle.snapshot.proofs.Appended.{HasTails}
use Rattle.snapshot.proofs.appending.find_light.Given as goal

abbrev pub invariant-loop-tail : goal.invariant-loop-tail
invariant-loop-tail l = record {
  tails : All (λ arc. arc.tail ≤ 1023) l.found.items;
  legs : HasTails (block_parts l.block.starts l.block.legs.items) l.tail l.found.items;
}
