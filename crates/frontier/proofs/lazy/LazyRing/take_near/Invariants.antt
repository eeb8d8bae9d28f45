use Rattle.std.proofs.Common.{◌≡◌, [], length}
use Rattle.frontier.specs.Entries.{entry_count}
use Rattle.frontier.specs.Live.{queued}
use Rattle.frontier.proofs.lazy.LazyRing.take_near.Given as goal

-- only entries that were not live were taken so far
abbrev pub invariant-buckets : goal.invariant-buckets
invariant-buckets g l = record {
  none : l.nodes.items ≡ [];
  same : queued l.self.ring.delta l.self.ring.lists.items (g.V.SearchValues.values l.self.tentative) ≡ queued l.fn.self.ring.delta l.fn.self.ring.lists.items (g.V.SearchValues.values l.fn.self.tentative);
  tentative : (g.V.SearchValues.values l.self.tentative) ≡ (g.V.SearchValues.values l.fn.self.tentative);
  bag : l.self.bag ≡ l.fn.self.bag;
  width : l.self.ring.delta ≡ l.fn.self.ring.delta;
  size : length l.self.ring.lists.items ≡ length l.fn.self.ring.lists.items;
}

abbrev pub decreases-buckets : goal.decreases-buckets
decreases-buckets g l = entry_count l.self.ring.lists.items
