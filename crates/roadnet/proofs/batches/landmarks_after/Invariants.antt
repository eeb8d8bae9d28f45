use Rattle.std.proofs.Common.{◌≡◌, take, fold}
use Rattle.std.specs.List.Sorted.{IsStrictlyIncreasing}
use Rattle.roadnet.specs.Batches.{changed_landmarks}
use Rattle.roadnet.specs.Groups.{commands_of}
use Rattle.roadnet.proofs.batches.landmarks_after.Given as goal

abbrev pub invariant-loop-group : goal.invariant-loop-group
invariant-loop-group l = (l.found.items ≡ fold changed_landmarks l.landmarks (commands_of (take l.group-index l.groups))) × IsStrictlyIncreasing l.found.items
