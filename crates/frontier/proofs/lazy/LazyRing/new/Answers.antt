use Rattle.std.proofs.Common.{arith}
use Rattle.frontier.proofs.Bags.{AreKept-none, all_queued-none}
use Rattle.frontier.proofs.EntryLists.{AreInPlace-none}
use Rattle.frontier.proofs.lazy.LazyRing.new.Goals as goal

pub invariant_of-result : goal.invariant_of-result
invariant_of-result g c = record {
  none = c.new.ensures.items;
  within = AreInPlace-none c.args.ring.delta c.args.ring.last c.args.ring.lists.items c.requires.none;
  kept = AreKept-none (g.V.SearchValues.values c.args.tentative) c.args.ring.delta c.reach-bound.result c.args.ring.lists.items c.new-2.result.items c.requires.none c.new-2.ensures.items;
  room = omega (arith, c.reach-bound.ensures);
}

pub returns-clause-empty : goal.returns-clause-empty
returns-clause-empty g c = all_queued-none c.args.ring.delta c.args.ring.lists.items c.new-2.result.items (g.V.SearchValues.values c.args.tentative) c.requires.none c.new-2.ensures.items
