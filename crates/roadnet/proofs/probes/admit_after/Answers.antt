use Rattle.std.proofs.Common.{◌∙◌}
use Rattle.roadnet.specs.Batches.{changed_by, changed_by_all}
use Rattle.roadnet.proofs.GroupsInTurn.{node_same, nodes_same_both, room_same_both}
use Rattle.roadnet.proofs.probes.admit_after.Goals as goal

pub returns-in-Mark : goal.returns-in-Mark
returns-in-Mark g c net ok of =
    let seen = c.see-seen-in-Mark.ensures net ok of in
    rw c.in-Mark.is (c.judge_mark.ensures (changed_by (changed_by_all net c.args.groups.now) c.args.earlier.now) c.in-Mark.node (node_same net c.args.groups.now c.args.earlier.now c.in-Mark.node ∙ c.knows_node.ensures net ok of) seen.marked seen.landmarks)

pub returns-in-Unmark : goal.returns-in-Unmark
returns-in-Unmark g c net ok of =
    let seen = c.see-seen-in-Unmark.ensures net ok of in
    rw c.in-Unmark.is (c.judge_unmark.ensures (changed_by (changed_by_all net c.args.groups.now) c.args.earlier.now) c.in-Unmark.node (node_same net c.args.groups.now c.args.earlier.now c.in-Unmark.node ∙ c.knows_node-in-Unmark.ensures net ok of) seen.marked)

pub returns-in-Lay : goal.returns-in-Lay
returns-in-Lay g c net ok of =
    let seen = c.see-seen-in-Lay.ensures net ok of in
    rw c.in-Lay.is (c.judge_lay.ensures (changed_by (changed_by_all net c.args.groups.now) c.args.earlier.now) c.in-Lay.tail c.in-Lay.head (nodes_same_both net c.args.groups.now c.args.earlier.now c.in-Lay.tail c.in-Lay.head ∙ c.knows_both-there.ensures net ok of) seen.arcs (room_same_both net c.args.groups.now c.args.earlier.now ∙ c.most_arcs.ensures net ok of))
