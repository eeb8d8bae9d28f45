-- A network with its arcs the other way round, and what that does to walks and rows.
use Rattle.std.specs.Prelude.{◌≡◌, ℕ, List, Option, map as list_map, reverse, MatchOption}
use Rattle.roadnet.specs.declared.arcs.RoadArc.{RoadArc}
use Rattle.roadnet.specs.Net.{Net, IsNode, IsNetwork}
use Rattle.roadnet.specs.Walks.{Walk, Least, NoWalk, RowOf, distance_at, length_of}

-- the arc the other way round, as long, and open where it is
abbrev pub reversed_arc : RoadArc → RoadArc
reversed_arc arc = record { tail = arc.head; head = arc.tail; length = arc.length; opened = arc.opened }

-- the network with each arc the other way round, under its number
abbrev pub reversed : Net → Net
reversed net = record { nodes = net.nodes; arcs = list_map reversed_arc net.arcs; landmarks = net.landmarks; room = net.room }

-- Reversed twice, a network is as it was.
abbrev pub ReversedTwice : Type 0
ReversedTwice = (net : Net) → reversed (reversed net) ≡ net

-- A walk from s to t, its arcs in reverse order, is one from t to s in the reversed network, and as long.
abbrev pub WalksReverse : Type 0
WalksReverse =
    (net : Net) (s t : ℕ) (walk : List ℕ) → IsNetwork net → Walk net s t walk
    → Walk (reversed net) t s (reverse walk) × (length_of (reversed net) (reverse walk) ≡ length_of net walk)

-- So the least distances of the reversed network are those of the network, the other way round.
abbrev pub LeastReverses : Type 0
LeastReverses = (net : Net) (s t d : ℕ) → IsNetwork net → Least (reversed net) t s d → Least net s t d

abbrev pub NoWalkReverses : Type 0
NoWalkReverses = (net : Net) (s t : ℕ) → IsNetwork net → NoWalk (reversed net) t s → NoWalk net s t

-- The row of t in the reversed network has for each node the distance from it to t.
abbrev pub ReversedRowIsTo : Type 0
ReversedRowIsTo =
    (net : Net) (t : ℕ) (row : List (Option ℕ)) → IsNetwork net → RowOf (reversed net) t row
    → (s : ℕ) → IsNode net s → MatchOption (distance_at row s) (NoWalk net s t) (Least net s t)
