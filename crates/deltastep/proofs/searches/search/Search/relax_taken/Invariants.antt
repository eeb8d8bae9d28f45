use Rattle.std.proofs.Common.{ℕ, ◌≤◌, drop}
use Rattle.std.specs.Bool.{OnFalse}
use Rattle.snapshot.specs.declared.legs.Part.{Part}
use Rattle.deltastep.specs.Search.{AreInBucket, AreReached, FitsFrom, IsBucketEmpty, IsRelaxedBut, IsSearch, IsSuited, top_of, weight}
use Rattle.deltastep.proofs.searches.search.Search.relax_taken.Given as goal

-- the nodes from here on owe their legs
abbrev pub invariant-loop-node : goal.invariant-loop-node
invariant-loop-node g l =
    let queue = g.F.Frontier in
    record {
      search : IsSearch l.snapshot (g.F.Frontier.tentative l.self.frontier) (queue.entries l.self.frontier) l.bucket;
      reached : (source : ℕ) → AreReached l.snapshot source (g.F.Frontier.tentative l.fn.self.frontier) → AreReached l.snapshot source (g.F.Frontier.tentative l.self.frontier);
      owed : (part : Part) → IsRelaxedBut l.snapshot part (g.F.Frontier.tentative l.self.frontier) (queue.entries l.self.frontier) (drop l.node-index l.nodes);
      nodes : AreInBucket (g.F.Frontier.tentative l.self.frontier) l.snapshot.delta l.bucket l.nodes;
      none_came : OnFalse l.came_back (IsBucketEmpty l.snapshot.delta l.bucket (queue.entries l.fn.self.frontier) → IsBucketEmpty l.snapshot.delta l.bucket (queue.entries l.self.frontier));
      weighs : weight (top_of l.snapshot) (g.F.Frontier.tentative l.self.frontier) (queue.entries l.self.frontier) ≤ weight (top_of l.snapshot) (g.F.Frontier.tentative l.fn.self.frontier) (queue.entries l.fn.self.frontier);
      window : FitsFrom (queue.accepts l.self.frontier) l.snapshot l.bucket;
      suited : IsSuited l.snapshot (queue.width l.self.frontier) (queue.span l.self.frontier);
    }
