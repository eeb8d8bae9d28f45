use Rattle.std.proofs.Common.{◌≢◌, ℕ, ◌<◌, get_or}
use Rattle.desk.proofs.handles.shelves.position_of.Given as goal

abbrev pub invariant-loop-place : goal.invariant-loop-place
invariant-loop-place l = (k : ℕ) (any : ℕ × ℕ) → k < l.place → get_or l.asked k any ≢ (l.version, l.source)
