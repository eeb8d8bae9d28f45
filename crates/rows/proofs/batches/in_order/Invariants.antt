use Rattle.std.proofs.Common.{◌≡◌, take}
use Rattle.rows.specs.Batches.{AreRightBy}
use Rattle.kept_rows.specs.Cached.{HasRowsOf, KeepsOthers, capacity_of}
use Rattle.rows.proofs.batches.in_order.Given as goal

abbrev pub invariant-loop-pair : goal.invariant-loop-pair
invariant-loop-pair g l = record {
  right : AreRightBy l.network g.E.PairEnds.source g.E.PairEnds.target (take l.pair-index l.pairs) l.replies.items;
  kept : HasRowsOf l.version l.network l.cache;
  others : KeepsOthers l.version l.initial.cache l.cache;
  capacity : capacity_of l.cache ≡ capacity_of l.initial.cache;
}
