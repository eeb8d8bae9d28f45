use Rattle.std.proofs.Common.{◌≡◌, ℕ, Some, take, Contains}
use Rattle.roadnet.specs.declared.arcs.RoadArc.{RoadArc}
use Rattle.roadnet.specs.Net.{nth}
use Rattle.snapshot.proofs.tails.tails_of.Given as goal

abbrev pub invariant-loop-number : goal.invariant-loop-number
invariant-loop-number l = (k : ℕ) (arc : RoadArc) → Contains (take l.number-index l.numbers) k → nth l.arcs k ≡ Some arc → Contains l.tails.items arc.tail
