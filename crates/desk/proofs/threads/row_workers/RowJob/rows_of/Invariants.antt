use Rattle.std.proofs.Common.{◌≡◌, ◌<◌, ◌++◌, map, drop}
use Rattle.std.specs.Prelude.{All}
use Rattle.rows.specs.declared.landmark_rows.Row.{Row}
use Rattle.rows.specs.Views.{IsRowAt}
use Rattle.desk.specs.Shares.{share_of}
use Rattle.desk.proofs.threads.row_workers.RowJob.rows_of.Given as goal

abbrev pub invariant-loop-landmark : goal.invariant-loop-landmark
invariant-loop-landmark g l = record {
  shared : map (λ (row : Row). row.landmark) l.rows.items ++ share_of l.self.workers l.passed (drop l.landmark-index l.landmark-items) ≡ share_of l.self.workers l.worker l.landmark-items;
  each : All (IsRowAt l.self.version l.self.network.now) l.rows.items;
  passed : l.passed < l.self.workers;
}
