-- The arcs of a network the other way round, each with its number.
use Rattle.std.specs.Prelude.{◌≡◌, ℕ, suc, true, List, [], ◌∷◌, Some, Contains}
use Rattle.roadnet.specs.declared.arcs.RoadArc.{RoadArc}
use Rattle.roadnet.specs.Ends.{KeepsEnds}
use Rattle.roadnet.specs.Net.{Net, arc_at}
use Rattle.snapshot.specs.Groups.{Groups, legs_of, IsGrouped, IsSnapshotOf}
use Rattle.snapshot.specs.declared.legs.Leg.{Leg}
use Rattle.snapshot.specs.declared.legs.Part.TheVariants.{Light}
use Rattle.deltastep.specs.Repair.{AreTails}

-- the arc of this number the other way round, open, with its number in place of its length
abbrev pub back_numbered : ℕ → RoadArc → RoadArc
back_numbered k arc = record { tail = arc.head; head = arc.tail; length = k; opened = true }

-- these arcs so, if they are numbered from n on
abbrev pub numbered_from : ℕ → List RoadArc → List RoadArc
numbered_from n [] = []
numbered_from n (arc ∷ arcs) = back_numbered n arc ∷ numbered_from (suc n) arcs

-- the network with each arc so
abbrev pub numbered_back : Net → Net
numbered_back net = record net { arcs = numbered_from 1 net.arcs }

-- what stands for an arc at its head: its tail and its number
abbrev pub numbered_leg : ℕ → RoadArc → Leg
numbered_leg k arc = record { head = arc.tail; length = k }

-- Each arc, open or closed, is among the legs of its head, by its tail and its number.
pub record IsNumbered (net : Net) (back : Groups) : Type 0 where
  pub each : (k : ℕ) (arc : RoadArc) → arc_at net k ≡ Some arc → Contains (legs_of back Light arc.head) (numbered_leg k arc)

-- For each leg of the network, and of one that it came from by commands, these groups have one back, from its head to its tail; and for each arc one with its number.
pub record LeadsBack (net : Net) (back : Groups) : Type 0 where
  pub nodes : back.nodes ≡ net.nodes
  pub tails : (older : Net) (groups : Groups) → IsGrouped groups → IsSnapshotOf older groups → KeepsEnds older net → AreTails back groups
  pub numbers : (older : Net) → KeepsEnds older net → IsNumbered older back
