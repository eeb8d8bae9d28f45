use Rattle.std.proofs.Common.{ℕ, ◌≤◌}
use Rattle.upgrades.specs.Maps.{KeepsEndsAt}
use Rattle.upgrades.proofs.maps.was_made_of.Given as goal

abbrev pub invariant-loop-place : goal.invariant-loop-place
invariant-loop-place l = (k : ℕ) → k ≤ l.place → KeepsEndsAt l.map l.network k
