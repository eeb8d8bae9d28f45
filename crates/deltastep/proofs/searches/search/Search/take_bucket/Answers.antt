use Rattle.deltastep.proofs.Live.{AreLiveFrom-taking}
use Rattle.deltastep.proofs.searches.search.Search.take_bucket.Goals as goal

pub returns-clause-live : goal.returns-clause-live
returns-clause-live g c = AreLiveFrom-taking c.args._snapshot.now (g.F.Frontier.width c.args.self.now.frontier) c.in_ok-take_least_into.field-0 c.take_least_into.new.nodes.items (g.F.Frontier.entries c.args.self.now.frontier) (g.F.Frontier.entries c.take_least_into.new.self) c.requires.suited.width c.in_ok-take_least_into.ensures.taken c.in_ok-take_least_into.ensures.kept
