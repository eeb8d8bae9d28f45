use Rattle.std.proofs.Common.{true, false}
use Rattle.roadnet.specs.declared.arcs.RoadArc.{RoadArc}
use Rattle.keeper.proofs.Leads.{see-updated, see-beside, see-mark, see-mark_other, see-unmark, see-unmark_other, set_within}
use Rattle.keeper.proofs.networks.leading.seen_after_one.Goals as goal

pub returns-then-named-k : goal.returns-then-named-k
returns-then-named-k c net ok none s = rw c.in-Set.is (see-beside net c.args.k c.args.seen s (λ (arc : RoadArc). record arc { length = c.in-Set.length }) c.in-Set.named c.if-named-k.true)

pub returns-else-named-k : goal.returns-else-named-k
returns-else-named-k c net ok none s =
    let admitted = rw c.in-Set.is at none in
    rw c.in-Set.is (see-updated net c.args.k c.args.seen s (λ (arc : RoadArc). record arc { length = c.in-Set.length }) c.in-Set.named c.with_length-arc.result c.if-named-k.false (c.with_length-arc.ensures (set_within net c.args.k c.args.seen s c.in-Set.named c.in-Set.length admitted)))

pub returns-then-named-k-2 : goal.returns-then-named-k-2
returns-then-named-k-2 c net ok none s = rw c.in-Close.is (see-beside net c.args.k c.args.seen s (λ (arc : RoadArc). record arc { opened = false }) c.in-Close.named c.if-named-k-2.true)

pub returns-else-named-k-2 : goal.returns-else-named-k-2
returns-else-named-k-2 c net ok none s = rw c.in-Close.is (see-updated net c.args.k c.args.seen s (λ (arc : RoadArc). record arc { opened = false }) c.in-Close.named c.with_flag-arc.result c.if-named-k-2.false c.with_flag-arc.ensures)

pub returns-then-named-k-3 : goal.returns-then-named-k-3
returns-then-named-k-3 c net ok none s = rw c.in-Reopen.is (see-beside net c.args.k c.args.seen s (λ (arc : RoadArc). record arc { opened = true }) c.in-Reopen.named c.if-named-k-3.true)

pub returns-else-named-k-3 : goal.returns-else-named-k-3
returns-else-named-k-3 c net ok none s = rw c.in-Reopen.is (see-updated net c.args.k c.args.seen s (λ (arc : RoadArc). record arc { opened = true }) c.in-Reopen.named c.with_flag-arc-in-Reopen.result c.if-named-k-3.false c.with_flag-arc-in-Reopen.ensures)

pub returns-then-node-k : goal.returns-then-node-k
returns-then-node-k c net ok none s = rw c.in-Mark.is (see-mark_other net c.args.k c.args.seen s c.in-Mark.node c.if-node-k.true)

pub returns-else-node-k : goal.returns-else-node-k
returns-else-node-k c net ok none s = rw c.in-Mark.is (see-mark net c.args.k c.args.seen s c.in-Mark.node c.if-node-k.false)

pub returns-then-node-k-2 : goal.returns-then-node-k-2
returns-then-node-k-2 c net ok none s = rw c.in-Unmark.is (see-unmark_other net c.args.k c.args.seen s c.in-Unmark.node c.if-node-k-2.true)

pub returns-else-node-k-2 : goal.returns-else-node-k-2
returns-else-node-k-2 c net ok none s = rw c.in-Unmark.is (see-unmark net c.args.k c.args.seen s c.in-Unmark.node c.if-node-k-2.false)

pub returns-in-Lay : goal.returns-in-Lay
returns-in-Lay c net ok none s =
    let admitted = rw c.in-Lay.is at none in
    rw c.in-Lay.is (c.seen_after_lay.ensures net ok admitted s)
