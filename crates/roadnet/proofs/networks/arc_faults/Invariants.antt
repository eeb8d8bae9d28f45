use Rattle.std.proofs.Common.{◌≡◌, take}
use Rattle.roadnet.specs.Made.{has_long_arc, has_stray_end}
use Rattle.roadnet.proofs.networks.arc_faults.Given as goal

abbrev pub invariant-loop-arc : goal.invariant-loop-arc
invariant-loop-arc l = (l.long ≡ has_long_arc (take l.arc-index l.arcs)) × (l.stray ≡ has_stray_end l.nodes (take l.arc-index l.arcs))
