use Rattle.std.proofs.Common.{◌≡◌, length}
use Rattle.snapshot.proofs.Regrouped.{AreDone, AreKept}
use Rattle.snapshot.proofs.regrouping.blocks_after.Given as goal

abbrev pub invariant-loop-block : goal.invariant-loop-block
invariant-loop-block g l = record {
  count : length l.blocks ≡ length l.old;
  kept : AreKept (g.R.Roads.network l.roads).arcs l.delta l.touched l.old l.blocks;
  done : AreDone (g.R.Roads.network l.roads).arcs l.delta l.touched l.block l.blocks;
}
