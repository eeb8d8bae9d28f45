use Rattle.std.proofs.Common.{◌≡◌, ℕ, List, take, fold}
use Rattle.roadnet.specs.Batches.{changed_landmarks}
use Rattle.roadnet.proofs.flags.names_no_node.Given as goal

abbrev pub invariant-loop-command : goal.invariant-loop-command
invariant-loop-command l = (landmarks : List ℕ) → fold changed_landmarks landmarks (take l.command-index l.commands) ≡ landmarks
