use Rattle.std.proofs.Common.{◌≡◌, length}
use Rattle.roadnet.specs.Undoing.{restored}
use Rattle.roadnet.proofs.undoing.restore.Given as goal

abbrev pub invariant-loop-change : goal.invariant-loop-change
invariant-loop-change l = restored l.notes.items l.arcs.items ≡ restored l.fn.notes.items l.fn.arcs.items

abbrev pub decreases-loop-change : goal.decreases-loop-change
decreases-loop-change l = length l.notes.items
