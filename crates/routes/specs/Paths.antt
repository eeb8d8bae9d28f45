-- How a route is found back from its target, by what is known of the distances from its source.
use Rattle.std.specs.Prelude.{◌≡◌, ◌≢◌, ℕ, ◌+◌, ◌<◌, Bool, true, false, List, AllPairs, Option, Some, slice_index_or}
use Rattle.relax.specs.Values.{value_at}
use Rattle.roadnet.specs.declared.arcs.RoadArc.{RoadArc}
use Rattle.roadnet.specs.Net.{Net, arc_at}
use Rattle.roadnet.specs.Walks.{Walk, length_of}
use Rattle.snapshot.specs.Groups.{Groups, legs_of}
use Rattle.snapshot.specs.declared.legs.Leg.{Leg}
use Rattle.snapshot.specs.declared.legs.Part.TheVariants.{Light}
use Rattle.routes.specs.Routes.{nodes_visited}

-- Arc k is open, leads to node v, and is tight: its tail's distance and its length add up to v's distance.
pub record IsTight (net : Net) (values : List (Option ℕ)) (v k : ℕ) (arc : RoadArc) : Type 0 where
  pub there : arc_at net k ≡ Some arc
  pub opened : arc.opened ≡ true
  pub head : arc.head ≡ v
  pub sum : (near : ℕ) × (value_at values arc.tail ≡ Some near) × (value_at values v ≡ Some (near + arc.length))

-- node v was met
abbrev pub IsMet : List Bool → ℕ → Type 0
IsMet met v = slice_index_or met v false ≡ true

-- each node from which a tight arc leads to v was met
abbrev pub IsNodeDone : Net → List (Option ℕ) → List Bool → ℕ → Type 0
IsNodeDone net values met v = (k : ℕ) (arc : RoadArc) → IsTight net values v k arc → IsMet met arc.tail

-- .. each of those among the first so many legs of v
abbrev pub AreLegsLooked : Net → Groups → List (Option ℕ) → List Bool → ℕ → ℕ → Type 0
AreLegsLooked net back values met v looked =
    (i : ℕ) (leg : Leg) (arc : RoadArc) → i < looked → slice_index_or (legs_of back Light v) i leg ≡ leg → IsTight net values v leg.length arc → IsMet met arc.tail

-- The arcs lead from s to t, no node is visited twice, and they are as long together as `far` is beyond the value of s.
pub record IsWay (net : Net) (values : List (Option ℕ)) (s t far : ℕ) (arcs : List ℕ) : Type 0 where
  pub walks : Walk net s t arcs
  pub once : AllPairs (λ x y. x ≢ y) (nodes_visited net s arcs)
  pub long : (x : ℕ) × (value_at values s ≡ Some x) × (length_of net arcs + x ≡ far)
