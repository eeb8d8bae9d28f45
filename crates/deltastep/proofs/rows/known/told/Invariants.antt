use Rattle.std.proofs.Common.{◌≡◌, map, take}
use Rattle.deltastep.specs.Reach.{node_told_of}
use Rattle.deltastep.proofs.rows.known.told.Given as goal

abbrev pub invariant-loop-node : goal.invariant-loop-node
invariant-loop-node g l = l.told.items ≡ map (node_told_of (g.V.Known.values l.values)) (take l.node-index l.nodes)
