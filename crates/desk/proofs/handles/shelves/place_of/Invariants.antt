use Rattle.std.proofs.Common.{◌≢◌, ℕ, ◌<◌, get_or}
use Rattle.desk.specs.declared.handles.shelves.KeptRow.{KeptRow}
use Rattle.desk.proofs.handles.shelves.place_of.Given as goal

abbrev pub invariant-loop-place : goal.invariant-loop-place
invariant-loop-place l = (k : ℕ) (any : KeptRow) → k < l.place → (get_or l.rows k any).source ≢ l.source
