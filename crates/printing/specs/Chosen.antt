-- The numbers of some of a network's arcs.
use Rattle.std.specs.Prelude.{ℕ, ◌==◌, Bool, ◌&&◌, not, List, map, filter}
use Rattle.std.specs.List.{enumerate_from}
use Rattle.roadnet.specs.declared.arcs.RoadArc.{RoadArc}

-- the numbers of the arcs that pass a test, ascending
abbrev pub arcs_where : (RoadArc → Bool) → List RoadArc → List ℕ
arcs_where test arcs = map (λ p. p.0) (filter (λ p. test p.1) (enumerate_from 1 arcs))

-- the arc leads from the one node to the other
abbrev pub leads : ℕ → ℕ → RoadArc → Bool
leads tail head arc = (arc.tail == tail) && (arc.head == head)

-- the numbers of the closed arcs
abbrev pub closed_arcs : List RoadArc → List ℕ
closed_arcs arcs = arcs_where (λ arc. not arc.opened) arcs
