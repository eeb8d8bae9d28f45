use Rattle.std.proofs.Common.{ℕ, ◌+◌, ◌≤◌, take, All}
use Rattle.snapshot.specs.declared.legs.Leg.{Leg}
use Rattle.relax.specs.Values.{value_or}
use Rattle.deltastep.proofs.repairs.near.leads_to_less.Given as goal

abbrev pub invariant-loop-leg : goal.invariant-loop-leg
invariant-loop-leg l = (top : ℕ) → All (λ (leg : Leg). value_or top l.tentative leg.head ≤ l.value + leg.length) (take l.leg-index l.legs)
