use Rattle.std.proofs.Common.{◌≡◌, ℕ, ◌+◌, ◌/◌, ◌<◌, true, length, get_or, take, Contains}
use Rattle.roadnet.specs.declared.arcs.RoadArc.{RoadArc}
use Rattle.snapshot.proofs.regrouping.touched_blocks.Given as goal

abbrev pub invariant-loop-number : goal.invariant-loop-number
invariant-loop-number l = record {
  count : length l.touched.items ≡ l.count;
  touched : (place : ℕ) (d : RoadArc) → place < length l.arcs → Contains (take l.number-index l.changed) (place + 1) → get_or l.touched.items ((get_or l.arcs place d).tail / 1024) true ≡ true;
}
