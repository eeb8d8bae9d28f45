use Rattle.std.proofs.Common.{◌≡◌}
use Rattle.rows.specs.Batches.{AreNodes}
use Rattle.kept_rows.specs.Cached.{HasNoNewRow, capacity_of}
use Rattle.rows.proofs.side_by_side.missing.Given as goal

abbrev pub invariant-loop-source : goal.invariant-loop-source
invariant-loop-source l = record {
  nodes : AreNodes l.nodes l.missing.items;
  rows : HasNoNewRow l.initial.cache l.cache;
  capacity : capacity_of l.cache ≡ capacity_of l.initial.cache;
}
