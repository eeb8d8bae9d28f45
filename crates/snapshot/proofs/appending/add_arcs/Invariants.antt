use Rattle.std.proofs.Common.{◌≡◌, ◌++◌, map, take}
use Rattle.snapshot.specs.Appended.{arc_of}
use Rattle.snapshot.proofs.appending.add_arcs.Given as goal

abbrev pub invariant-loop-leg : goal.invariant-loop-leg
invariant-loop-leg l = l.found.items ≡ l.fn.found.items ++ map (arc_of l.tail) (take l.leg-index l.legs)
