use Rattle.std.proofs.Common.{◌≡◌, length}
use Rattle.std.specs.Prelude.{All}
use Rattle.roadnet.specs.Net.{Net}
use Rattle.snapshot.specs.Groups.{IsSnapshotOf}
use Rattle.rows.specs.Batches.{IsRowOfOne}
use Rattle.kept_rows.specs.Cached.{HasRowsOf, KeepsOthers, capacity_of}
use Rattle.rows.proofs.side_by_side.fetch_rows.Given as goal

abbrev pub decreases-loop-rows : goal.decreases-loop-rows
decreases-loop-rows g l = length l.parts.items

abbrev pub invariant-loop-rows : goal.invariant-loop-rows
invariant-loop-rows g l = record {
  left : All (λ list. All (IsRowOfOne l.snapshot) list.items) l.parts.items;
  kept : (net : Net) → IsSnapshotOf net l.snapshot → HasRowsOf l.version net l.initial.cache → HasRowsOf l.version net l.cache;
  others : KeepsOthers l.version l.initial.cache l.cache;
  capacity : capacity_of l.cache ≡ capacity_of l.initial.cache;
}
