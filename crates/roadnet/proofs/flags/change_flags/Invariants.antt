use Rattle.std.proofs.Common.{◌≡◌, take, fold}
use Rattle.roadnet.specs.Flags.{changed_flags}
use Rattle.roadnet.proofs.flags.change_flags.Given as goal

abbrev pub invariant-loop-i : goal.invariant-loop-i
invariant-loop-i l = l.flags.items ≡ fold changed_flags l.fn.flags.items (take l.i l.commands)
