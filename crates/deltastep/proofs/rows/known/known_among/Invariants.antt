use Rattle.std.proofs.Common.{◌≡◌, filter, take}
use Rattle.deltastep.specs.Reach.{has_within}
use Rattle.deltastep.proofs.rows.known.known_among.Given as goal

abbrev pub invariant-loop-node : goal.invariant-loop-node
invariant-loop-node g l = l.known.items ≡ filter (has_within (g.V.Known.values l.values) l.end) (take l.node-index l.nodes)
