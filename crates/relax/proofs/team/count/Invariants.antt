use Rattle.std.proofs.Common.{◌≡◌, ℕ, List, [], Option, take}
use Rattle.relax.specs.Requests.{requests_of}
use Rattle.relax.proofs.team.count.Given as goal

abbrev pub invariant-loop-node : goal.invariant-loop-node
invariant-loop-node l = l.count ≡ 0 → (tentative : List (Option ℕ)) → requests_of l.snapshot (take l.node-index l.nodes) tentative l.part ≡ []
