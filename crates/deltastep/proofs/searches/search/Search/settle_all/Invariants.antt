use Rattle.std.proofs.Common.{◌≡◌, ℕ, ◌+◌, []}
use Rattle.deltastep.specs.Search.{IsBetweenBuckets, IsSuited, top_of, weight}
use Rattle.deltastep.proofs.searches.search.Search.settle_all.Given as goal

abbrev pub invariant-buckets : goal.invariant-buckets
invariant-buckets g l =
    let queue = g.F.Frontier in
    record {
      settled : (source : ℕ) → IsBetweenBuckets l.snapshot source (g.F.Frontier.tentative l.fn.self.frontier) (queue.entries l.fn.self.frontier) → IsBetweenBuckets l.snapshot source (g.F.Frontier.tentative l.self.frontier) (queue.entries l.self.frontier);
      none : l.remembered ≡ record { limit = l.snapshot.nodes + 1; nodes = [] };
      suited : IsSuited l.snapshot (queue.width l.self.frontier) (queue.span l.self.frontier);
    }

abbrev pub decreases-buckets : goal.decreases-buckets
decreases-buckets g l = weight (top_of l.snapshot) (g.F.Frontier.tentative l.self.frontier) (g.F.Frontier.entries l.self.frontier)
