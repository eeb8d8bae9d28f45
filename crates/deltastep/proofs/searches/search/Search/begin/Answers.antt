use Rattle.deltastep.proofs.Live.{AreLiveFrom-first}
use Rattle.deltastep.proofs.Starting.{IsBetweenBuckets-first}
use Rattle.deltastep.proofs.searches.search.Search.begin.Goals as goal

pub returns-clause-state : goal.returns-clause-state
returns-clause-state g c =
    IsBetweenBuckets-first c.args.snapshot.now c.args.source c.requires.node.0 c.requires.node.1 (g.F.Frontier.tentative c.args.frontier) (g.F.Frontier.tentative c.lower.new.self.frontier) (g.F.Frontier.entries c.lower.new.self.frontier) (g.F.Frontier.entries c.args.frontier) c.in_ok-lower.field-0 c.requires.blank c.requires.suits.empty (rw c.top.ensures.value at c.in_ok-lower.ensures.lowered) c.in_ok-lower.ensures.tentative c.in_ok-lower.ensures.queued

pub returns-clause-live : goal.returns-clause-live
returns-clause-live g c = AreLiveFrom-first c.args.snapshot.now c.args.source (g.F.Frontier.entries c.args.frontier) (g.F.Frontier.entries c.lower.new.self.frontier) c.in_ok-lower.field-0 c.requires.suits.empty c.in_ok-lower.ensures.queued
