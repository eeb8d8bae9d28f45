use Rattle.std.proofs.Common.{◌≡◌, ℕ, List, take, fold}
use Rattle.roadnet.specs.Batches.{changed_landmarks}
use Rattle.roadnet.specs.Groups.{commands_of}
use Rattle.roadnet.proofs.batches.name_no_node.Given as goal

abbrev pub invariant-loop-group : goal.invariant-loop-group
invariant-loop-group l = (landmarks : List ℕ) → fold changed_landmarks landmarks (commands_of (take l.group-index l.groups)) ≡ landmarks
