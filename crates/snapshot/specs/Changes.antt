-- Which arcs commands name, and which nodes arcs leave.
use Rattle.std.specs.Prelude.{◌≡◌, ℕ, List, [], ◌∷◌, Some, Contains}
use Rattle.roadnet.specs.declared.arcs.RoadArc.{RoadArc}
use Rattle.roadnet.specs.declared.commands.Command.{Command}
use Rattle.roadnet.specs.declared.commands.Command.TheVariants.{Set, Close, Reopen, Mark, Unmark, Lay}
use Rattle.roadnet.specs.Net.{Net, arc_at}

-- the number of the arc that the command names, if it names one
abbrev pub named_by : Command → List ℕ
named_by (Set k w) = k ∷ []
named_by (Close k) = k ∷ []
named_by (Reopen k) = k ∷ []
named_by (Mark x) = []
named_by (Unmark x) = []
named_by (Lay t h w) = []

-- the tails of the arcs of these numbers are among the nodes
abbrev pub HasTailsOf : Net → List ℕ → List ℕ → Type 0
HasTailsOf net numbers nodes = (k : ℕ) (arc : RoadArc) → Contains numbers k → arc_at net k ≡ Some arc → Contains nodes arc.tail
