-- More legs behind those of a node.
use Rattle.std.specs.Prelude.{◌≡◌, ℕ, ◌≤◌, ◌<◌, true, List, [], ◌++◌, slice_index_or, Contains}
use Rattle.roadnet.specs.declared.arcs.RoadArc.{RoadArc}
use Rattle.snapshot.specs.declared.legs.Leg.{Leg}
use Rattle.snapshot.specs.declared.legs.Part.{Part}
use Rattle.snapshot.specs.declared.legs.Part.TheVariants.{Light, Heavy}
use Rattle.snapshot.specs.Groups.{part_place, legs_in}

-- the open arc of this tail that has the leg
abbrev pub arc_of : ℕ → Leg → RoadArc
arc_of tail leg = record { tail = tail; head = leg.head; length = leg.length; opened = true }

-- no leg of these parts is heavy
pub record AreLight (delta : ℕ) (parts : List (List Leg)) : Type 0 where
  pub short : (u : ℕ) (leg : Leg) → Contains (slice_index_or parts (part_place Light u) []) leg → leg.length ≤ delta
  pub heavy : (u : ℕ) → slice_index_or parts (part_place Heavy u) [] ≡ []

-- each of so many tails has its legs, and behind them those of these arcs
abbrev pub HasMore : ℕ → List RoadArc → ℕ → List (List Leg) → List (List Leg) → Type 0
HasMore tails arcs delta old new = (part : Part) (u : ℕ) → u < tails → slice_index_or new (part_place part u) [] ≡ slice_index_or old (part_place part u) [] ++ legs_in arcs delta part u
