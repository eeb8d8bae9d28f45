use Rattle.roadnet.proofs.Seen.{see-set, see-close, see-close_other, see-reopen, see-reopen_other, see-mark, see-mark_other, see-unmark, see-unmark_other, see-lay, see-lay_other}
use Rattle.roadnet.proofs.probes.seen_after_one.Goals as goal

pub returns-in-Set : goal.returns-in-Set
returns-in-Set c net ok none s = rw c.in-Set.is (see-set net c.args.k c.args.x c.args.seen ok s c.in-Set.arc c.in-Set.length)

pub returns-then-arc-k : goal.returns-then-arc-k
returns-then-arc-k c net ok none s = rw c.in-Close.is (see-close_other net c.args.k c.args.x c.args.seen ok s c.in-Close.arc c.if-arc-k.true)

pub returns-else-arc-k : goal.returns-else-arc-k
returns-else-arc-k c net ok none s = let admitted = rw c.in-Close.is at none in rw c.in-Close.is (see-close net c.args.k c.args.x c.args.seen ok s c.in-Close.arc c.if-arc-k.false admitted)

pub returns-then-arc-k-2 : goal.returns-then-arc-k-2
returns-then-arc-k-2 c net ok none s = rw c.in-Reopen.is (see-reopen_other net c.args.k c.args.x c.args.seen ok s c.in-Reopen.arc c.if-arc-k-2.true)

pub returns-else-arc-k-2 : goal.returns-else-arc-k-2
returns-else-arc-k-2 c net ok none s = let admitted = rw c.in-Reopen.is at none in rw c.in-Reopen.is (see-reopen net c.args.k c.args.x c.args.seen ok s c.in-Reopen.arc c.if-arc-k-2.false admitted)

pub returns-then-node-x : goal.returns-then-node-x
returns-then-node-x c net ok none s =
    let admitted = rw c.in-Mark.is at none in rw c.in-Mark.is (see-mark_other net c.args.k c.args.x c.args.seen ok s c.in-Mark.node c.one_more-landmarks.result c.if-node-x.true admitted c.one_more-landmarks.ensures)

pub returns-else-node-x : goal.returns-else-node-x
returns-else-node-x c net ok none s =
    let admitted = rw c.in-Mark.is at none in rw c.in-Mark.is (see-mark net c.args.k c.args.x c.args.seen ok s c.in-Mark.node c.one_more-landmarks.result c.if-node-x.false admitted c.one_more-landmarks.ensures)

pub returns-then-node-x-2 : goal.returns-then-node-x-2
returns-then-node-x-2 c net ok none s =
    let admitted = rw c.in-Unmark.is at none in rw c.in-Unmark.is (see-unmark_other net c.args.k c.args.x c.args.seen ok s c.in-Unmark.node c.saturating_sub-landmarks.result c.if-node-x-2.true admitted c.saturating_sub-landmarks.ensures)

pub returns-else-node-x-2 : goal.returns-else-node-x-2
returns-else-node-x-2 c net ok none s =
    let admitted = rw c.in-Unmark.is at none in rw c.in-Unmark.is (see-unmark net c.args.k c.args.x c.args.seen ok s c.in-Unmark.node c.saturating_sub-landmarks.result c.if-node-x-2.false admitted c.saturating_sub-landmarks.ensures)

pub returns-then-arcs-k : goal.returns-then-arcs-k
returns-then-arcs-k c net ok none s =
    let admitted = rw c.in-Lay.is at none in rw c.in-Lay.is (see-lay_other net c.args.k c.args.x c.args.seen ok s c.in-Lay.tail c.in-Lay.head c.in-Lay.length c.one_more-arcs.result c.if-arcs-k.true admitted c.one_more-arcs.ensures)

pub returns-else-arcs-k : goal.returns-else-arcs-k
returns-else-arcs-k c net ok none s =
    let admitted = rw c.in-Lay.is at none in rw c.in-Lay.is (see-lay net c.args.k c.args.x c.args.seen ok s c.in-Lay.tail c.in-Lay.head c.in-Lay.length c.one_more-arcs.result c.if-arcs-k.false admitted c.one_more-arcs.ensures)
