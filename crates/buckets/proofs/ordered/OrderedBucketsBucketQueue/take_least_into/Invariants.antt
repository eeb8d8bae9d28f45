use Rattle.std.proofs.Common.{◌≡◌, [], length}
use Rattle.buckets.proofs.ordered.OrderedBucketsBucketQueue.take_least_into.Given as goal

abbrev pub invariant-loop-bucket : goal.invariant-loop-bucket
invariant-loop-bucket l = record {
  delta : l.self.delta ≡ l.fn.self.delta;
  same : l.self.nodes ≡ l.fn.self.nodes;
  none : l.nodes.items ≡ [];
}

abbrev pub decreases-loop-bucket : goal.decreases-loop-bucket
decreases-loop-bucket l = length l.self.lists.entries
