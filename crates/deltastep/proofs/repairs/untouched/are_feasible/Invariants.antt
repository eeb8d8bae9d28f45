use Rattle.std.proofs.Common.{take}
use Rattle.deltastep.specs.Repair.{AreFeasible}
use Rattle.deltastep.proofs.repairs.untouched.are_feasible.Given as goal

abbrev pub invariant-loop-leg : goal.invariant-loop-leg
invariant-loop-leg l = AreFeasible l.row l.value (take l.leg-index l.legs)
