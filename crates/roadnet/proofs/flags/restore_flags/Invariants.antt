use Rattle.std.proofs.Common.{◌≡◌, ◌≤◌, length, take}
use Rattle.roadnet.specs.Flags.{flags_before}
use Rattle.roadnet.proofs.flags.restore_flags.Given as goal

abbrev pub invariant-loop-left : goal.invariant-loop-left
invariant-loop-left l = (l.left ≤ length l.commands) × (flags_before l.flags.items (take l.left l.commands) ≡ flags_before l.fn.flags.items l.commands)

abbrev pub decreases-loop-left : goal.decreases-loop-left
decreases-loop-left l = l.left
