use Rattle.std.proofs.Common.{◌≡◌, ◌+◌, ◌++◌, map, take}
use Rattle.snapshot.specs.declared.legs.Leg.{Leg}
use Rattle.relax.proofs.team.push_requests.Given as goal

abbrev pub invariant-loop-leg : goal.invariant-loop-leg
invariant-loop-leg l = l.requests.items ≡ l.fn.requests.items ++ map (λ (leg : Leg). (leg.head, l.value + leg.length)) (take l.leg-index l.legs)
