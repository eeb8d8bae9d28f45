use Rattle.std.proofs.Common.{◌≡◌, get_or, rules, arith}
use Rattle.upgrades.proofs.Marking.{gone_counted, has_room, is_fresh, marked_more}
use Rattle.upgrades.proofs.upgrading.mark_all.Goals as goal

pub mark_node-requires-clause-fresh : goal.mark_node-requires-clause-fresh
mark_node-requires-clause-fresh c =
    let is : c.from.result ≡ get_or c.args.landmarks.now c.loop-node.node-index 0 = search rules in
    is_fresh c.args.network c.args.landmarks.now c.requires.ascending c.requires.few c.loop-node.node-index c.from.result c.loop-node-test.true is c.loop-node.marked c.loop-node.invariant

pub mark_node-requires-clause-few : goal.mark_node-requires-clause-few
mark_node-requires-clause-few c =
    let is : c.from.result ≡ get_or c.args.landmarks.now c.loop-node.node-index 0 = search rules in
    has_room c.args.network c.args.landmarks.now c.requires.ascending c.requires.few c.loop-node.node-index c.from.result c.loop-node-test.true is c.loop-node.marked c.loop-node.invariant

pub loop-node-preserved : goal.loop-node-preserved
loop-node-preserved c =
    let is : c.from.result ≡ get_or c.args.landmarks.now c.loop-node.node-index 0 = search rules in
    marked_more c.args.network c.args.landmarks.now c.requires.ascending c.requires.few c.loop-node.node-index c.from.result c.loop-node-test.true is c.loop-node.marked c.mark_node.new.network c.loop-node.invariant
    c.in_ok-mark_node.ensures.marked

pub overflow_sub-gone : goal.overflow_sub-gone
overflow_sub-gone c =
    let all = gone_counted c.args.network c.loop-node.marked c.args.landmarks.now c.landmarks-left.result.now c.loop-node.node-index c.loop-node-test.false c.loop-node.invariant c.landmarks-left.ensures.value in
    omega (arith, all)

pub returns-clause-counted : goal.returns-clause-counted
returns-clause-counted c =
    let all = gone_counted c.args.network c.loop-node.marked c.args.landmarks.now c.landmarks-left.result.now c.loop-node.node-index c.loop-node-test.false c.loop-node.invariant c.landmarks-left.ensures.value in
    omega (arith, all)
