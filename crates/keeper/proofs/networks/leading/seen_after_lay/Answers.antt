use Rattle.keeper.proofs.Leads.{see-lay, see-lay_other}
use Rattle.keeper.proofs.networks.leading.seen_after_lay.Goals as goal

pub returns-then-arcs-k : goal.returns-then-arcs-k
returns-then-arcs-k c net ok none s = see-lay_other net c.args.k c.args.seen s c.args.tail c.args.head c.args.length c.one_more-arcs.result ok none c.one_more-arcs.ensures c.if-arcs-k.true

pub returns : goal.returns
returns c net ok none s = see-lay net c.args.k c.args.seen s c.args.tail c.args.head c.args.length c.one_more-arcs.result ok none c.one_more-arcs.ensures c.laid.result c.if-arcs-k.false c.laid.ensures
