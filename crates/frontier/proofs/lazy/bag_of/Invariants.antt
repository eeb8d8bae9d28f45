use Rattle.std.proofs.Common.{◌≡◌, take}
use Rattle.frontier.specs.Live.{standing}
use Rattle.frontier.proofs.lazy.bag_of.Given as goal

abbrev pub invariant-loop-node : goal.invariant-loop-node
invariant-loop-node g l = l.bag.items ≡ standing (g.V.SearchValues.values l.tentative) (take l.node-index l.nodes)
