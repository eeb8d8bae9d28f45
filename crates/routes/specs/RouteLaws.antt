-- Which values are enough for a route, and how long routes are.
use Rattle.std.specs.Prelude.{◌≡◌, ℕ, ◌∷◌, List, Option, None}
use Rattle.roadnet.specs.Net.{Net, IsNode}
use Rattle.roadnet.specs.Walks.{RowOf, Least, length_of}
use Rattle.deltastep.specs.Reach.{IsKnownTo}
use Rattle.routes.specs.Routes.{IsRoute}

-- A row has all distances, so those up to each node's.
abbrev pub RowIsKnown : Type 0
RowIsKnown = (net : Net) (s t : ℕ) (row : List (Option ℕ)) → RowOf net s row → IsNode net t → IsKnownTo net s t (None ∷ row)

-- All routes from s to t are as long as t is far.
abbrev pub RouteIsAsLong : Type 0
RouteIsAsLong = (net : Net) (s t far : ℕ) (arcs : List ℕ) → IsRoute net s t arcs → Least net s t far → length_of net arcs ≡ far
