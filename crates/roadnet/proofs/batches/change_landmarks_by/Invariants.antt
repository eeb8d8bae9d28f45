use Rattle.std.proofs.Common.{◌≡◌, take, fold}
use Rattle.std.specs.List.Sorted.{IsStrictlyIncreasing}
use Rattle.roadnet.specs.Batches.{changed_landmarks}
use Rattle.roadnet.proofs.batches.change_landmarks_by.Given as goal

abbrev pub invariant-loop-command : goal.invariant-loop-command
invariant-loop-command l = (l.landmarks.items ≡ fold changed_landmarks l.fn.landmarks.items (take l.command-index l.commands)) × IsStrictlyIncreasing l.landmarks.items
