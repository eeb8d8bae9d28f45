use Rattle.std.proofs.Common.{◌≡◌, take}
use Rattle.relax.specs.Requests.{requests_of}
use Rattle.relax.proofs.team.requests_by.Given as goal

abbrev pub invariant-loop-node : goal.invariant-loop-node
invariant-loop-node g l = l.requests.items ≡ requests_of l.snapshot (take l.node-index l.nodes) (g.V.Known.values l.values) l.part
