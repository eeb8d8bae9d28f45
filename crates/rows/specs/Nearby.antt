-- What lies near a node of a network, and for what that is not told.
use Rattle.std.specs.Prelude.{◌≡◌, ◌⊎◌, ℕ, Bool, true, false, min, List}
use Rattle.std.specs.List.{list_all}
use Rattle.roadnet.specs.declared.refusals.Refusal.{Refusal}
use Rattle.roadnet.specs.declared.refusals.Refusal.TheVariants.{NoSuchNode, OutOfMemory}
use Rattle.roadnet.specs.Net.{Net}
use Rattle.deltastep.specs.declared.rows.known.NodeDistance.{NodeDistance}
use Rattle.deltastep.specs.Reach.{AreNearest, IsReach, IsReachTo}
use Rattle.rows.specs.Replies.{are_nodes}
use Rattle.rows.specs.declared.nearby.Near.{Near}
use Rattle.rows.specs.declared.nearby.Near.TheVariants.{Reach, Reached, Nearest}

-- the node that it is asked of
abbrev pub node_of : Near → ℕ
node_of (Reach source limit) = source
node_of (Reached target limit) = target
node_of (Nearest source count) = source

-- No network has more landmarks than a number of 32 bits tells.
abbrev pub most_asked : ℕ
most_asked = 4294967295

-- the nodes that the source reaches within the limit; those from which the target is reached within it; of the landmarks the nearest to the source
abbrev pub IsNear : Net → Near → List NodeDistance → Type 0
IsNear net (Reach source limit) told = IsReach net source limit told
IsNear net (Reached target limit) told = IsReachTo net target limit told
IsNear net (Nearest source count) told = AreNearest net source net.landmarks (min count most_asked) told

-- both ends of each pair are nodes
abbrev pub are_pairs : Net → List (ℕ × ℕ) → Bool
are_pairs net pairs = list_all (λ pair. are_nodes net pair.0 pair.1) pairs

-- For what nothing is told: a number is no node's (24), or all are, and memory ran out (11).
abbrev pub IsUntold : Bool → Refusal → Type 0
IsUntold there refusal = ((there ≡ false) × (refusal ≡ NoSuchNode)) ⊎ ((there ≡ true) × (refusal ≡ OutOfMemory))
