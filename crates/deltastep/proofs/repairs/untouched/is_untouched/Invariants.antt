use Rattle.std.proofs.Common.{take, All}
use Rattle.deltastep.specs.Repair.{IsUntouched}
use Rattle.deltastep.proofs.repairs.untouched.is_untouched.Given as goal

abbrev pub invariant-loop-node : goal.invariant-loop-node
invariant-loop-node l = All (IsUntouched l.before l.after l.row) (take l.node-index l.changed)
