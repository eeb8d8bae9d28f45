-- One arc of a network that was made of a map.
use Rattle.std.specs.Prelude.{◌≡◌, ℕ, Some}
use Rattle.roadnet.specs.declared.arcs.RoadArc.{RoadArc}
use Rattle.roadnet.specs.Net.{Net, arc_at}

-- if the map has an arc k, the network has it too, with the same ends
abbrev pub KeepsEndsAt : Net → Net → ℕ → Type 0
KeepsEndsAt map net k = (arc : RoadArc) → arc_at map k ≡ Some arc → (other : RoadArc) × (arc_at net k ≡ Some other) × (other.tail ≡ arc.tail) × (other.head ≡ arc.head)
