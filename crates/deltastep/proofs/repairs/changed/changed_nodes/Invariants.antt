use Rattle.std.proofs.Common.{◌≡◌, ℕ, ◌≤◌, ◌⊎◌, Contains}
use Rattle.snapshot.specs.Groups.{legs_of}
use Rattle.snapshot.specs.declared.legs.Part.{Part}
use Rattle.deltastep.proofs.repairs.changed.changed_nodes.Given as goal

abbrev pub invariant-loop-place : goal.invariant-loop-place
invariant-loop-place l = (u : ℕ) → 1 ≤ u → u ≤ l.place → Contains l.changed.items u ⊎ ((part : Part) → legs_of l.before part u ≡ legs_of l.after part u)
