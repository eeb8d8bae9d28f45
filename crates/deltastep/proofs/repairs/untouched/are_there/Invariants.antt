use Rattle.std.proofs.Common.{take}
use Rattle.deltastep.specs.Repair.{AreThere}
use Rattle.deltastep.proofs.repairs.untouched.are_there.Given as goal

abbrev pub invariant-loop-leg : goal.invariant-loop-leg
invariant-loop-leg l = AreThere l.after l.row l.node l.value (take l.leg-index l.legs)
