use Rattle.std.proofs.Common.{◌≡◌, ℕ, ◌+◌, ◌≤◌, ◌++◌, min, vec_len}
use Rattle.deltastep.specs.Search.{AreLiveFrom, AreReached, IsSearch, IsRelaxedBut, AreInBucket, IsBucketEmpty, FitsFrom, IsSuited, top_of, weight}
use Rattle.snapshot.specs.declared.legs.Part.TheVariants.{Light, Heavy}
use Rattle.deltastep.proofs.searches.search.Search.empty.Given as goal

-- the nodes owe both parts, the remembered ones the heavy part
abbrev pub invariant-phases : goal.invariant-phases
invariant-phases g l =
    let queue = g.F.Frontier in
    record {
      search : IsSearch l.snapshot (g.F.Frontier.tentative l.self.frontier) (queue.entries l.self.frontier) l.bucket;
      reached : (source : ℕ) → AreReached l.snapshot source (g.F.Frontier.tentative l.fn.self.frontier) → AreReached l.snapshot source (g.F.Frontier.tentative l.self.frontier);
      light : IsRelaxedBut l.snapshot Light (g.F.Frontier.tentative l.self.frontier) (queue.entries l.self.frontier) l.nodes.items;
      heavy : IsRelaxedBut l.snapshot Heavy (g.F.Frontier.tentative l.self.frontier) (queue.entries l.self.frontier) (l.remembered.nodes ++ l.nodes.items);
      nodes : AreInBucket (g.F.Frontier.tentative l.self.frontier) l.snapshot.delta l.bucket l.nodes.items;
      remembered : AreInBucket (g.F.Frontier.tentative l.self.frontier) l.snapshot.delta l.bucket l.remembered.nodes;
      emptied : IsBucketEmpty l.snapshot.delta l.bucket (queue.entries l.self.frontier);
      limit : l.remembered.limit ≡ l.snapshot.nodes + 1;
      live : AreLiveFrom l.snapshot l.bucket (queue.entries l.fn.self.frontier) → AreLiveFrom l.snapshot l.bucket (queue.entries l.self.frontier);
      window : FitsFrom (queue.accepts l.self.frontier) l.snapshot l.bucket;
      suited : IsSuited l.snapshot (queue.width l.self.frontier) (queue.span l.self.frontier);
      weighs : weight (top_of l.snapshot) (g.F.Frontier.tentative l.self.frontier) (queue.entries l.self.frontier) ≤ weight (top_of l.snapshot) (g.F.Frontier.tentative l.fn.self.frontier) (queue.entries l.fn.self.frontier);
    }

abbrev pub decreases-phases : goal.decreases-phases
decreases-phases g l = weight (top_of l.snapshot) (g.F.Frontier.tentative l.self.frontier) (g.F.Frontier.entries l.self.frontier) + min 1 (vec_len l.nodes)
