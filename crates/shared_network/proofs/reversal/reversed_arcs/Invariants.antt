use Rattle.std.proofs.Common.{◌≡◌, ◌++◌, drop, map, take}
use Rattle.roadnet.specs.Reversal.{reversed_arc}
use Rattle.shared_network.proofs.reversal.reversed_arcs.Given as goal

abbrev pub invariant-loop-place : goal.invariant-loop-place
invariant-loop-place l = l.all ≡ map reversed_arc (take l.place l.arcs) ++ drop l.place l.arcs
