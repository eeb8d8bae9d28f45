-- What no command changes: the nodes, and the ends of the arcs that there are.
use Rattle.std.specs.Prelude.{◌≡◌, ℕ, List, Some, length}
use Rattle.roadnet.specs.declared.arcs.RoadArc.{RoadArc}
use Rattle.roadnet.specs.declared.commands.Command.{Command}
use Rattle.roadnet.specs.Net.{Net, arc_at}
use Rattle.roadnet.specs.Step.{after}

-- The newer network has the nodes of the older one, and each arc of that has the same ends in it, under its number. It may have more arcs.
pub record KeepsEnds (older newer : Net) : Type 0 where
  pub nodes : newer.nodes ≡ older.nodes
  pub ends : (k : ℕ) (arc : RoadArc) → arc_at older k ≡ Some arc → (other : RoadArc) × (arc_at newer k ≡ Some other) × (other.tail ≡ arc.tail) × (other.head ≡ arc.head)

-- Whatever is commanded, arcs keep their ends.
abbrev pub EndsStay : Type 0
EndsStay = (old new : Net) (groups : List (List Command)) → after old groups ≡ Some new → KeepsEnds old new

-- Until an arc is added, that holds the other way round too.
abbrev pub EndsWereTheSame : Type 0
EndsWereTheSame = (older newer : Net) → KeepsEnds older newer → length newer.arcs ≡ length older.arcs → KeepsEnds newer older
