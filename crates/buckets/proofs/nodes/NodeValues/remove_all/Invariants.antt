use Rattle.std.proofs.Common.{◌≡◌, take}
use Rattle.buckets.specs.Tables.{without}
use Rattle.buckets.proofs.nodes.NodeValues.remove_all.Given as goal

abbrev pub invariant-loop-node : goal.invariant-loop-node
invariant-loop-node l = l.self ≡ without (take l.node-index l.nodes) l.fn.self
