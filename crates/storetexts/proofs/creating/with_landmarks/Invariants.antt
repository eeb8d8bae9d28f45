use Rattle.std.proofs.Common.{◌≡◌, take}
use Rattle.roadnet.specs.Members.{set_of}
use Rattle.storetexts.specs.Created.{with_landmarks}
use Rattle.storetexts.proofs.creating.with_landmarks.Given as goal

abbrev pub invariant-loop-node : goal.invariant-loop-node
invariant-loop-node l = l.marked ≡ with_landmarks l.fn.network (set_of (take l.node-index l.landmarks))
