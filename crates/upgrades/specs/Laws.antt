-- Laws of upgrades.
use Rattle.std.specs.Prelude.{◌≡◌, ℕ, ◌+◌, List, length, Some}
use Rattle.roadnet.specs.declared.arcs.RoadArc.{RoadArc}
use Rattle.roadnet.specs.Ends.{KeepsEnds}
use Rattle.roadnet.specs.Net.{Net, arc_at}
use Rattle.upgrades.specs.Upgrading.{arcs_kept, arcs_alone, doubtful, upgraded_arc}

-- Each arc of the map is kept, added or doubtful, and only one of these.
abbrev pub EachIsCounted : Type 0
EachIsCounted = (stored new : List RoadArc) → arcs_kept stored new + arcs_alone new stored + doubtful stored new ≡ length new

-- Brought to the map that it was made of, a network to which no arc was added keeps each arc as it is.
abbrev pub SameMapChangesNothing : Type 0
SameMapChangesNothing =
    (stored old : Net) (k : ℕ) (arc : RoadArc) → KeepsEnds old stored → length stored.arcs ≡ length old.arcs → arc_at old k ≡ Some arc
    → arc_at stored k ≡ Some (upgraded_arc stored old old k arc)
