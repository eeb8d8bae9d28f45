use Rattle.std.proofs.Common.{◌≡◌, length}
use Rattle.frontier.specs.Entries.{AreInPlace}
use Rattle.frontier.specs.Live.{AreEntriesDealt, AreEntriesKept}
use Rattle.frontier.proofs.lazy.deal_all.Given as goal

abbrev pub invariant-loop-entry : goal.invariant-loop-entry
invariant-loop-entry g l = record {
  placed : AreInPlace l.ring.delta l.ring.last l.ring.lists.items;
  kept : AreEntriesKept (g.V.SearchValues.values l.tentative) l.ring.delta l.bound l.ring.lists.items l.bag.items;
  dealt : AreEntriesDealt (g.V.SearchValues.values l.tentative) l.ring.delta l.entries l.entry-index l.ring.lists.items l.bag.items;
  width : l.ring.delta ≡ l.fn.ring.delta;
  last : l.ring.last ≡ l.fn.ring.last;
  size : length l.ring.lists.items ≡ length l.fn.ring.lists.items;
}
