use Rattle.std.proofs.Common.{◌≤◌, length, refl, arith}
use Rattle.std.proofs.lemmas.List.Elements.{All-more}
use Rattle.roadnet.specs.Net.{IsNode}
use Rattle.deltastep.proofs.Thinning.{All-of_take}
use Rattle.suppositions.proofs.supposed.has_nodes.Goals as goal

pub loop-node-preserved : goal.loop-node-preserved
loop-node-preserved c = All-more (IsNode c.args.network.now) c.args.nodes.now c.loop-node.node-index _ c.loop-node-test.true c.loop-node.invariant (c.has_node.ensures.node.0 c.if-not-has_node.false)

pub returns : goal.returns
returns c =
    let past : length c.args.nodes.now ≤ c.loop-node.node-index = omega arith in
    (λ _. All-of_take (IsNode c.args.network.now) c.args.nodes.now c.loop-node.node-index past c.loop-node.invariant, λ _. refl)
