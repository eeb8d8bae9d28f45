use Rattle.std.proofs.Common.{◌+◌, ◌*◌, length}
use Rattle.routes.proofs.Backward.{IsAt, unmet}
use Rattle.routes.proofs.paths.way_back.Given as goal

abbrev pub invariant-loop-node : goal.invariant-loop-node
invariant-loop-node g l = IsAt l.network l.back (g.V.Known.values l.values) l.source l.target l.far l.met.items l.node l.looked l.steps.items

-- each arc that is taken meets a node, and each that is given back was taken
abbrev pub decreases-loop-node : goal.decreases-loop-node
decreases-loop-node g l = 2 * unmet l.met.items + length l.steps.items
