use Rattle.std.proofs.Common.{subst}
use Rattle.relax.specs.Requests.{requests_of}
use Rattle.deltastep.specs.Search.{MeetsRequests, top_of}
use Rattle.deltastep.proofs.Live.{AreLiveFrom-lowered}
use Rattle.deltastep.proofs.Relaxing.{IsSearch-lowered, AreReached-lowered, AreInBucket-stays}
use Rattle.deltastep.proofs.searches.search.Search.relax.Given.{Over}
use Rattle.deltastep.proofs.searches.search.Search.relax.Goals as goal
use Rattle.deltastep.proofs.searches.search.Search.relax.Goals.{In_ok-came_back}

-- what was lowered, in the words of the snapshot
met : (g : Over) (c : In_ok-came_back g) → MeetsRequests (top_of c.args.snapshot.now) (requests_of c.args.snapshot.now c.args.nodes.now (g.F.Frontier.tentative c.args.self.now.frontier) c.args.part) (g.F.Frontier.tentative c.args.self.now.frontier) (g.F.Frontier.entries c.args.self.now.frontier) (g.F.Frontier.tentative c.ask.new.self.frontier) (g.F.Frontier.entries c.ask.new.self.frontier)
met g c = subst (λ n. MeetsRequests n (requests_of c.args.snapshot.now c.args.nodes.now (g.F.Frontier.tentative c.args.self.now.frontier) c.args.part) (g.F.Frontier.tentative c.args.self.now.frontier) (g.F.Frontier.entries c.args.self.now.frontier) (g.F.Frontier.tentative c.ask.new.self.frontier) (g.F.Frontier.entries c.ask.new.self.frontier)) c.top-top.ensures.value c.in_ok-came_back.ensures.met

pub returns-clause-search : goal.returns-clause-search
returns-clause-search g c = IsSearch-lowered c.args.snapshot.now c.args.nodes.now c.args.part _ _ _ _ (met g (goal.at.returns-clause-search g c).In_ok-came_back) c.args.bucket c.top-top.ensures.grouped c.requires.nodes c.requires.search

pub returns-clause-reached : goal.returns-clause-reached
returns-clause-reached g c source reached = AreReached-lowered c.args.snapshot.now c.args.nodes.now c.args.part _ _ _ _ (met g (goal.at.returns-clause-reached g c).In_ok-came_back) c.args.snapshot.now.delta c.args.bucket c.requires.nodes source reached

pub returns-clause-stays : goal.returns-clause-stays
returns-clause-stays g c = AreInBucket-stays c.args.snapshot.now c.args.nodes.now c.args.part _ _ _ _ (met g (goal.at.returns-clause-stays g c).In_ok-came_back) c.args.bucket c.top-top.ensures.grouped.delta c.requires.nodes

pub returns-clause-live : goal.returns-clause-live
returns-clause-live g c begun = AreLiveFrom-lowered c.args.snapshot.now c.args.nodes.now c.args.part _ _ _ _ (met g (goal.at.returns-clause-live g c).In_ok-came_back) c.args.bucket c.top-top.ensures.grouped c.requires.nodes begun
