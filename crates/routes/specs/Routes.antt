-- The arcs of shortest walks.
use Rattle.std.specs.Prelude.{◌≡◌, ◌≢◌, ℕ, List, ◌∷◌, Option, map, AllPairs, MatchOption}
use Rattle.std.specs.Option.{option_map_or}
use Rattle.roadnet.specs.Net.{Net, arc_at}
use Rattle.roadnet.specs.Walks.{Walk, Least, NoWalk, length_of}
use Rattle.routes.specs.declared.replies.Route.{Route}

-- the node that an arc reaches
abbrev pub head_of_arc : Net → ℕ → ℕ
head_of_arc net k = option_map_or (λ arc. arc.head) (arc_at net k) 0

-- the nodes that a walk from s visits, in order
abbrev pub nodes_visited : Net → ℕ → List ℕ → List ℕ
nodes_visited net s walk = s ∷ map (head_of_arc net) walk

-- The arcs lead from s to t, no walk from s to t is shorter, and no node is visited twice.
pub record IsRoute (net : Net) (s t : ℕ) (arcs : List ℕ) : Type 0 where
  pub walks : Walk net s t arcs
  pub least : Least net s t (length_of net arcs)
  pub once : AllPairs (λ x y. x ≢ y) (nodes_visited net s arcs)

-- the arcs are a route, and their lengths add up to this length
pub record IsRouteTold (net : Net) (s t : ℕ) (route : Route) : Type 0 where
  pub arcs : IsRoute net s t route.arcs.items
  pub length : route.length ≡ length_of net route.arcs.items

-- a route with its length, or that no walk leads there
abbrev pub TellsRoute : Net → ℕ → ℕ → Option Route → Type 0
TellsRoute net s t found = MatchOption found (NoWalk net s t) (IsRouteTold net s t)
