-- Laws of walks and least distances.
use Rattle.std.specs.Prelude.{◌≡◌, ℕ, ◌+◌, ◌-◌, ◌*◌, ◌≤◌, List, ◌++◌}
use Rattle.roadnet.specs.Net.{Net, IsNetwork, longest_arc}
use Rattle.roadnet.specs.Walks.{Walk, Least, NoWalk, length_of}

-- A walk and one that goes on from its end are a walk.
abbrev pub WalksJoin : Type 0
WalksJoin =
    (net : Net) (s u t : ℕ) (v w : List ℕ) → Walk net s u v → Walk net u t w
    → Walk net s t (v ++ w) × (length_of net (v ++ w) ≡ length_of net v + length_of net w)

-- There is one least distance.
abbrev pub LeastIsOne : Type 0
LeastIsOne = (net : Net) (s t d e : ℕ) → Least net s t d → Least net s t e → d ≡ e

-- There is a least distance or no walk, never both.
abbrev pub LeastOrNoWalk : Type 0
LeastOrNoWalk = (net : Net) (s t d : ℕ) → Least net s t d → ¬ NoWalk net s t

-- A least distance is at most as many longest arcs as there are other nodes.
abbrev pub LeastIsBounded : Type 0
LeastIsBounded = (net : Net) (s t d : ℕ) → IsNetwork net → Least net s t d → d ≤ (net.nodes - 1) * longest_arc

-- From the distances of a node l to s and to t: no walk from s to t is shorter than their difference.
abbrev pub DifferenceIsBelow : Type 0
DifferenceIsBelow =
    (net : Net) (l s t to_s to_t : ℕ) (walk : List ℕ) → Least net l s to_s → Least net l t to_t → Walk net s t walk
    → to_t - to_s ≤ length_of net walk

-- Where l leads to s and not to t, no walk leads from s to t.
abbrev pub NoWalkOnward : Type 0
NoWalkOnward = (net : Net) (l s t to_s : ℕ) → Least net l s to_s → NoWalk net l t → NoWalk net s t
