use Rattle.std.proofs.Common.{◌∙◌}
use Rattle.relax.specs.Values.{value_at}
use Rattle.deltastep.proofs.Ending.{beyond_over, beyond_within}
use Rattle.deltastep.proofs.searches.search.Search.settle_until.Goals as goal

pub returns-then-is_within-clause-beyond : goal.returns-then-is_within-clause-beyond
returns-then-is_within-clause-beyond g c =
    beyond_within (g.F.Frontier.tentative c.settle_next.new.self.frontier) (g.F.Frontier.entries c.settle_next.new.self.frontier) c.args.target c.args.snapshot.now.delta c.from-delta.result c.in-Some.bucket c.is_within.result c.delta.ensures.grouped.delta (c.from-delta.ensures ∙ c.delta.ensures.value) c.is_within.ensures c.if-is_within.true (rw c.in-Some.is at c.in_ok-bucket.ensures.later)

pub returns-clause-beyond : goal.returns-clause-beyond
returns-clause-beyond g c =
    beyond_over (value_at (g.F.Frontier.tentative c.settle_next.new.self.frontier) c.args.target) (g.F.Frontier.entries c.settle_next.new.self.frontier) (rw c.in_default.is at c.in_ok-bucket.ensures.later)
