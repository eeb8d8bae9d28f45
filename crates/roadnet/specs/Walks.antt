-- Walks, least distances and rows of them in a network.
use Rattle.std.specs.Prelude.{◌≡◌, ℕ, ◌≤◌, true, List, [], ◌∷◌, Option, None, Some, length, sum_by, unwrap_or, MatchOption}
use Rattle.std.specs.Option.{option_map_or}
use Rattle.roadnet.specs.declared.arcs.RoadArc.{RoadArc}
use Rattle.roadnet.specs.Net.{Net, IsNode, arc_at, nth}

-- The arcs of these numbers lead from s to t: all are open, and the head of each is the tail of the next. The empty list leads
-- from each node to itself.
abbrev pub Walk : Net → ℕ → ℕ → List ℕ → Type 0
Walk net s t [] = IsNode net s × (s ≡ t)
Walk net s t (k ∷ walk) = (arc : RoadArc) × (arc_at net k ≡ Some arc) × (arc.opened ≡ true) × (arc.tail ≡ s) × Walk net arc.head t walk

abbrev pub length_of_arc : Net → ℕ → ℕ
length_of_arc net k = option_map_or (λ arc. arc.length) (arc_at net k) 0

-- the sum of the lengths of the walk's arcs
abbrev pub length_of : Net → List ℕ → ℕ
length_of net walk = sum_by (length_of_arc net) walk

-- some walk from s to t has this length, and each is at least as long
pub record Least (net : Net) (s t distance : ℕ) : Type 0 where
  pub walked : (walk : List ℕ) × Walk net s t walk × (length_of net walk ≡ distance)
  pub least : (walk : List ℕ) → Walk net s t walk → distance ≤ length_of net walk

-- no walk leads from s to t
abbrev pub NoWalk : Net → ℕ → ℕ → Type 0
NoWalk net s t = (walk : List ℕ) → ¬ Walk net s t walk

-- what a row has for node t; its first entry is that of node 1
abbrev pub distance_at : List (Option ℕ) → ℕ → Option ℕ
distance_at row t = unwrap_or (nth row t) None

-- the row of s: for each node the least distance from s, or nothing where no walk leads there
pub record RowOf (net : Net) (s : ℕ) (row : List (Option ℕ)) : Type 0 where
  pub size : length row ≡ net.nodes
  pub each : (t : ℕ) → IsNode net t → MatchOption (distance_at row t) (NoWalk net s t) (Least net s t)
