use Rattle.std.proofs.Common.{◌≤◌, ◌<◌, length, arith}
use Rattle.deltastep.specs.Repair.{IsUntouched}
use Rattle.deltastep.proofs.Remaining.{IsRowIn, IsRowIn-of}
use Rattle.deltastep.proofs.Phases.{on_true}
use Rattle.deltastep.proofs.Thinning.{All-take_more, All-of_take}
use Rattle.deltastep.proofs.Staying.{RowOf-untouched}
use Rattle.deltastep.proofs.repairs.untouched.is_untouched.Goals as goal

pub loop-node-preserved : goal.loop-node-preserved
loop-node-preserved c =
    let changed = c.args.changed.now in
    let lt : c.loop-node.node-index < length changed = omega arith in
    All-take_more (IsUntouched c.args.before.now c.args.after.now c.args.row.now) changed c.loop-node.node-index _ lt c.loop-node.invariant (on_true c.is_node_untouched.result _ c.if-not-is_node_untouched.false c.is_node_untouched.ensures)

pub returns : goal.returns
returns c =
    let before = c.args.before.now in
    let after = c.args.after.now in
    let row = c.args.row.now in
    let past : length c.args.changed.now ≤ c.loop-node.node-index = omega arith in
    let of_row : IsRowIn before c.args.source row = IsRowIn-of c.requires.row.0 before c.requires.row.1 c.nodes-older.ensures.grouped c.args.source c.requires.node.0 (rw c.requires.nodes c.requires.node.1) row c.requires.row.2 in
    RowOf-untouched before after c.args.source row c.args.changed.now c.nodes-newer.ensures.grouped c.requires.nodes of_row c.requires.changed (All-of_take (IsUntouched before after row) c.args.changed.now c.loop-node.node-index past c.loop-node.invariant) c.requires.node.0 c.requires.node.1
