use Rattle.std.proofs.Common.{◌≡◌, ◌/◌, ◌∙◌, true, sym, subst}
use Rattle.buckets.specs.Lists.{is_listed}
use Rattle.buckets.proofs.Listed.{AreListed-set}
use Rattle.buckets.proofs.ordered.OrderedBucketsBucketQueue.put.Goals as goal

pub invariant_of-self-clause-listed : goal.invariant_of-self-clause-listed
invariant_of-self-clause-listed c =
    let width : c.list.new.self.delta ≡ c.from.result = c.list.ensures.delta ∙ sym c.from.ensures in
    let listed : is_listed c.list.new.self.lists (c.args.value / c.list.new.self.delta) c.args.node ≡ true = subst (λ w. is_listed c.list.new.self.lists (c.args.value / w) c.args.node ≡ true) (sym width) c.in_ok-list.ensures.ok in
    AreListed-set c.set.result c.list.new.self.delta c.list.new.self.lists c.list.new.self.nodes c.set.new.self c.args.node c.args.value c.list.new.self.listed c.set.ensures.ok c.set.ensures.err listed
