use Rattle.buckets.proofs.Listed.{AreListed-empty}
use Rattle.buckets.proofs.ordered.OrderedBuckets.new.Goals as goal

pub invariant_of-result : goal.invariant_of-result
invariant_of-result c = record {
  positive = c.requires;
  listed = rw c.new.ensures (AreListed-empty c.args.delta c.new-2.result);
}
