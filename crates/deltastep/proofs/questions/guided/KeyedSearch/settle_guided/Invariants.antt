use Rattle.std.proofs.Common.{◌≡◌, ℕ, [], length}
use Rattle.snapshot.specs.declared.legs.Part.{Part}
use Rattle.frontier.specs.Entries.{entry_count}
use Rattle.deltastep.specs.Search.{top_of}
use Rattle.deltastep.specs.Guided.{HasDone, IsUnderWayTo, entry_weight}
use Rattle.deltastep.proofs.questions.guided.KeyedSearch.settle_guided.Given as goal

abbrev pub invariant-buckets : goal.invariant-buckets
invariant-buckets g l = record {
  none : l.taken.items ≡ [];
  state : (source : ℕ) → IsUnderWayTo l.snapshot source (g.G.Guide.target l.guide) l.fn.self → IsUnderWayTo l.snapshot source (g.G.Guide.target l.guide) l.self;
  done : (part : Part) (u : ℕ) → HasDone l.snapshot part l.self u;
  width : l.delta ≡ l.self.ring.delta;
  size : l.window ≡ length l.self.ring.lists.items;
}

abbrev pub decreases-buckets : goal.decreases-buckets
decreases-buckets g l = entry_weight (top_of l.snapshot) l.self.tentative (entry_count l.self.ring.lists.items)
