use Rattle.std.proofs.Common.{◌≡◌, length, take, All}
use Rattle.kept_rows.specs.Cached.{HasRowsOf, KeepsOthers, capacity_of}
use Rattle.rows.proofs.Placing.{IsRightAt}
use Rattle.rows.proofs.batches.by_places.Given as goal

abbrev pub invariant-loop-index : goal.invariant-loop-index
invariant-loop-index g l = record {
  right : All (IsRightAt l.network g.E.PairEnds.source g.E.PairEnds.target l.pairs l.replies.items) (take l.index l.places);
  count : length l.replies.items ≡ length l.pairs;
  kept : HasRowsOf l.version l.network l.cache;
  others : KeepsOthers l.version l.initial.cache l.cache;
  capacity : capacity_of l.cache ≡ capacity_of l.initial.cache;
}
