use Rattle.std.proofs.Common.{◌≡◌, ◌≤◌, length, map, take, drop, Global}
use Rattle.std.specs.Prelude.{All, vec_capacity, vec_len}
use Rattle.std.specs.declared.collections.VecDeque.{VecDeque}
use Rattle.rows.specs.declared.landmark_rows.Row.{Row}
use Rattle.rows.specs.Views.{IsRowAt}
use Rattle.desk.specs.Shares.{AreSharesDealt}
use Rattle.desk.proofs.threads.row_workers.gather.Given as goal

abbrev pub invariant-loop-place : goal.invariant-loop-place
invariant-loop-place g l = record {
  landmarks : map (λ (row : Row). row.landmark) l.rows.items ≡ take l.place l.landmarks;
  count : vec_len l.rows ≡ l.place;
  room : length l.landmarks ≤ vec_capacity l.rows;
  each : All (IsRowAt l.job.version l.job.network.now) l.rows.items;
  dealt : AreSharesDealt l.job.version l.job.network.now l.job.workers (drop l.place l.landmarks) (map (λ (queue : VecDeque Row Global). queue.items) l.parts.items);
}
