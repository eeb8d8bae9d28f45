use Rattle.std.proofs.Common.{◌≡◌, ℕ, ◌<◌, get_or}
use Rattle.snapshot.specs.declared.legs.Leg.{Leg}
use Rattle.deltastep.proofs.repairs.changed.are_same.Given as goal

abbrev pub invariant-loop-place : goal.invariant-loop-place
invariant-loop-place l = (k : ℕ) (d : Leg) → k < l.place → get_or l.legs k d ≡ get_or l.others k d
