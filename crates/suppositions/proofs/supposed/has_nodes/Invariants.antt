use Rattle.std.proofs.Common.{All, take}
use Rattle.roadnet.specs.Net.{IsNode}
use Rattle.suppositions.proofs.supposed.has_nodes.Given as goal

abbrev pub invariant-loop-node : goal.invariant-loop-node
invariant-loop-node l = All (IsNode l.network) (take l.node-index l.nodes)
