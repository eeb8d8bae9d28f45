use Rattle.std.proofs.Common.{◌≡◌, length, map}
use Rattle.snapshot.specs.Blocks.{AreBlocksOf, block_parts}
use Rattle.snapshot.proofs.regrouping.all_blocks.Given as goal

abbrev pub invariant-loop-places : goal.invariant-loop-places
invariant-loop-places g l = record {
  count : length l.blocks ≡ l.places-index;
  each : AreBlocksOf (g.R.Roads.network l.roads).arcs l.delta (map (λ block. block_parts block.starts block.legs.items) l.blocks);
}
