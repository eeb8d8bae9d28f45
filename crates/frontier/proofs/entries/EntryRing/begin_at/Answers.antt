use Rattle.std.proofs.Common.{refl}
use Rattle.frontier.proofs.EntryLists.{AreSmall-none}
use Rattle.frontier.proofs.entries.EntryRing.begin_at.Goals as goal

pub invariant_of-self : goal.invariant_of-self
invariant_of-self c =
    let s = c.args.self.now in
    record {
      positive = s.positive;
      some = s.some;
      begins = rw c.size.ensures.value refl;
      marked = s.marked;
      small = AreSmall-none c.args.last s.lists.items c.requires.none;
    }
