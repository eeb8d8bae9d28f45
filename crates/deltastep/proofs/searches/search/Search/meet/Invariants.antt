use Rattle.std.proofs.Common.{◌≡◌, ℕ, ◌≤◌, take}
use Rattle.std.specs.Bool.{OnTrue, OnFalse}
use Rattle.deltastep.specs.Search.{MeetsRequests, weight, HasQueued, IsBucketEmpty}
use Rattle.deltastep.proofs.searches.search.Search.meet.Given as goal

-- the requests so far are met
abbrev pub invariant-loop-request : goal.invariant-loop-request
invariant-loop-request g l =
    let queue = g.F.Frontier in
    record {
      met : MeetsRequests l.top (take l.request-index l.requests) (g.F.Frontier.tentative l.fn.self.frontier) (queue.entries l.fn.self.frontier) (g.F.Frontier.tentative l.self.frontier) (queue.entries l.self.frontier);
      came_back : OnTrue l.came_back (HasQueued (g.F.Frontier.tentative l.self.frontier) (queue.entries l.self.frontier) (queue.width l.fn.self.frontier) l.bucket);
      none_came : OnFalse l.came_back (IsBucketEmpty (queue.width l.fn.self.frontier) l.bucket (queue.entries l.fn.self.frontier) → IsBucketEmpty (queue.width l.fn.self.frontier) l.bucket (queue.entries l.self.frontier));
      weighs : weight l.top (g.F.Frontier.tentative l.self.frontier) (queue.entries l.self.frontier) ≤ weight l.top (g.F.Frontier.tentative l.fn.self.frontier) (queue.entries l.fn.self.frontier);
      accepts : (v : ℕ) → queue.accepts l.fn.self.frontier v → queue.accepts l.self.frontier v;
      width : queue.width l.self.frontier ≡ queue.width l.fn.self.frontier;
      span : queue.span l.self.frontier ≡ queue.span l.fn.self.frontier;
    }
