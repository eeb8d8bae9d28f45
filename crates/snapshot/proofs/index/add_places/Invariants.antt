use Rattle.std.proofs.Common.{◌≡◌, ℕ, ◌<◌, [], map, length, get_or, take}
use Rattle.snapshot.specs.Blocks.{places_of_block}
use Rattle.snapshot.proofs.index.add_places.Given as goal

abbrev pub invariant-loop-place : goal.invariant-loop-place
invariant-loop-place g l = record {
  blocks : length l.lists ≡ length l.fn.lists;
  added : (block : ℕ) → block < length l.lists → get_or (map (λ list. list.value.items) l.lists) block [] ≡ places_of_block block 0 (take l.place (g.R.Roads.network l.roads).arcs);
}
