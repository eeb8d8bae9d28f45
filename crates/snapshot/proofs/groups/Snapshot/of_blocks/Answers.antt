use Rattle.std.proofs.Common.{◌∙◌, ap, sym}
use Rattle.snapshot.specs.Blocks.{block_count}
use Rattle.snapshot.proofs.Shared.{IsSnapshotOf-made, IsGrouped-made}
use Rattle.snapshot.proofs.groups.Snapshot.of_blocks.Goals as goal

pub invariant_of-result : goal.invariant_of-result
invariant_of-result g c =
    rw c.in_ok-blocks.ensures.ok
    (c.requires.count ∙ ap block_count (sym c.node_count-nodes.ensures.value), IsGrouped-made (g.R.Roads.network c.args.roads.now) c.node_count-nodes.ensures.network c.args.delta c.args.blocks c.node_count-nodes.result c.args.greatest c.node_count-nodes.ensures.value c.requires.count c.requires.each c.requires.greatest c.requires.delta, (c.narrow_width-narrow.ensures.positive, c.narrow_width-narrow.ensures.narrow))

pub returns-clause-network : goal.returns-clause-network
returns-clause-network g c = rw c.in_ok-blocks.ensures.ok (IsSnapshotOf-made (g.R.Roads.network c.args.roads.now) c.node_count-nodes.ensures.network c.args.delta c.args.blocks c.node_count-nodes.result c.args.greatest c.node_count-nodes.ensures.value c.requires.count c.requires.each c.requires.greatest)
