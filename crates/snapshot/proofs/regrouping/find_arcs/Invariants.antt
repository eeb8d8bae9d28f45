use Rattle.std.proofs.Common.{◌≡◌, map, take, get_or}
use Rattle.roadnet.specs.declared.arcs.RoadArc.{RoadArc}
use Rattle.snapshot.specs.Blocks.{within_block}
use Rattle.snapshot.proofs.regrouping.find_arcs.Given as goal

abbrev pub invariant-loop-place : goal.invariant-loop-place
invariant-loop-place g l = (d : RoadArc) → l.found.items ≡ map (λ place. within_block (get_or (g.R.Roads.network l.roads).arcs place d)) (take l.place-index l.places)
