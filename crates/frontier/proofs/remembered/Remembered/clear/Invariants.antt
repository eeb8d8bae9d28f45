use Rattle.std.proofs.Common.{◌≡◌, length}
use Rattle.frontier.proofs.remembered.Remembered.clear.Given as goal

abbrev pub invariant-nodes : goal.invariant-nodes
invariant-nodes l = l.self.limit ≡ l.fn.self.limit

abbrev pub decreases-nodes : goal.decreases-nodes
decreases-nodes l = length l.self.nodes
