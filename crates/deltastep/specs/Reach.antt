-- Which nodes lie within a length of a node, and which of some nodes lie nearest to it.
--     AreWithin net IsLength limit told     the nodes whose length is at most the limit, each with it, ascending
--     IsReach net source limit told         the nodes that walks from the source reach within the limit
--     IsReachTo net target limit told       the nodes from which walks reach the target within the limit
--     nearer_first a b                      the order by distance, and then by node
--     AreNearest net source among count told     of these nodes the nearest to the source, as many as the count
--     AreFinal net source end values        up to the end the values are the distances from the source
--     IsKnownTo net source target values    .. up to the target
use Rattle.std.specs.Prelude.{◌≡◌, ℕ, ◌+◌, ◌≤◌, ◌<◌, ◌⊎◌, nat_le, min, Bool, true, false, List, map, length, count_by, All, Contains, Option, None, Some, IfSome, MatchOption}
use Rattle.std.specs.List.Sorted.{IsStrictlyIncreasing, IsStrictlySortedBy}
use Rattle.std.specs.Ordering.{nat_cmp, ordering_then}
use Rattle.std.specs.declared.cmp.Ordering.{Ordering}
use Rattle.std.specs.declared.cmp.Ordering.TheVariants.{Less}
use Rattle.relax.specs.Values.{value_at, value_or}
use Rattle.roadnet.specs.Net.{Net, IsNode}
use Rattle.roadnet.specs.Walks.{Least, NoWalk}
use Rattle.buckets.specs.Queue.{Entries}
use Rattle.std.specs.FinMap as map_of
use Rattle.deltastep.specs.declared.rows.known.NodeDistance.{NodeDistance}

-- a node with its distance
abbrev pub told_node : ℕ → ℕ → NodeDistance
told_node node distance = record { distance = distance; node = node }

-- every node whose length is at most the limit, and no other, each with its length, ascending by node
pub record AreNodesWithin (net : Net) (IsLength : ℕ → ℕ → Type 0) (limit : ℕ) (told : List NodeDistance) : Type 0 where
  pub ascending : IsStrictlyIncreasing (map (λ r. r.node) told)
  pub right : (u d : ℕ) → Contains told (told_node u d) → IsNode net u × IsLength u d × (d ≤ limit)
  pub each : (u d : ℕ) → IsNode net u → IsLength u d → d ≤ limit → Contains told (told_node u d)

-- the nodes that are within the limit from the source
abbrev pub IsReach : Net → ℕ → ℕ → List NodeDistance → Type 0
IsReach net source limit told = AreNodesWithin net (λ target d. Least net source target d) limit told

-- the nodes from which the target is within the limit
abbrev pub IsReachTo : Net → ℕ → ℕ → List NodeDistance → Type 0
IsReachTo net target limit told = AreNodesWithin net (λ source d. Least net source target d) limit told

-- the nearer comes first, and of two as near the one of the lower number
abbrev pub nearer_first : NodeDistance → NodeDistance → Ordering
nearer_first a b = ordering_then (nat_cmp a.distance b.distance) (nat_cmp a.node b.node)

-- as many are told as were asked for, and each of them comes before this one
pub record ComeBefore (count : ℕ) (told : List NodeDistance) (r : NodeDistance) : Type 0 where
  pub full : length told ≡ count
  pub before : (u d : ℕ) → Contains told (told_node u d) → nearer_first (told_node u d) r ≡ Less

-- of these nodes the nearest to the source, as many as the count, or fewer where walks lead to fewer
pub record AreNearest (net : Net) (source : ℕ) (among : List ℕ) (count : ℕ) (told : List NodeDistance) : Type 0 where
  pub ascending : IsStrictlySortedBy nearer_first told
  pub few : length told ≤ count
  pub right : (x d : ℕ) → Contains told (told_node x d) → Contains among x × Least net source x d
  pub nearest : (x d : ℕ) → Contains among x → Least net source x d → Contains told (told_node x d) ⊎ ComeBefore count told (told_node x d)

-- the least length of a walk, or that there is none
abbrev pub IsLeastLength : Net → ℕ → ℕ → Option ℕ → Type 0
IsLeastLength net source target distance = MatchOption distance (NoWalk net source target) (Least net source target)

-- ---- how far a search has come

-- within the end, if there is one: where the search is over, each value is
abbrev pub IsWithinEnd : Option ℕ → ℕ → Type 0
IsWithinEnd end d = IfSome end (λ e. d ≤ e)

-- up to the end the values are the distances from the source
pub record AreFinal (net : Net) (source : ℕ) (end : Option ℕ) (values : List (Option ℕ)) : Type 0 where
  pub places : length values ≡ net.nodes + 1
  pub right : (u d : ℕ) → value_at values u ≡ Some d → IsWithinEnd end d → IsNode net u × Least net source u d
  pub each : (u d : ℕ) → IsNode net u → Least net source u d → IsWithinEnd end d → value_at values u ≡ Some d

-- up to the target's distance the values are the distances from the source, or no walk leads to the target, and it has no value
abbrev pub IsKnownTo : Net → ℕ → ℕ → List (Option ℕ) → Type 0
IsKnownTo net source target values = MatchOption (value_at values target) (NoWalk net source target) (λ far. AreFinal net source (Some far) values)

-- what is known when a search ends: the values are final up to the end, and if there is none, each is the distance
pub record Knows (net : Net) (source : ℕ) (end : Option ℕ) (values : List (Option ℕ)) : Type 0 where
  pub final : AreFinal net source end values
  pub over : end ≡ None → (target : ℕ) → IsNode net target → IsLeastLength net source target (value_at values target)

-- all that is queued is beyond the end; where there is none, nothing is queued
abbrev pub IsBeyond : Option ℕ → Entries → Type 0
IsBeyond None queue = queue ≡ map_of.empty
IsBeyond (Some end) queue = (u x : ℕ) → map_of.get queue u ≡ Some x → end < x

-- ---- which nodes have values

-- some value within the end
abbrev pub is_within : Option ℕ → Option ℕ → Bool
is_within end None = false
is_within None (Some d) = true
is_within (Some e) (Some d) = nat_le d e

-- the node has one
abbrev pub has_within : List (Option ℕ) → Option ℕ → ℕ → Bool
has_within values end node = is_within end (value_at values node)

-- these are nodes
abbrev pub AreNodesOfRow : List (Option ℕ) → List ℕ → Type 0
AreNodesOfRow values nodes = All (λ u. (1 ≤ u) × (u < length values)) nodes

-- among these are all nodes with values up to the limit, and no others
pub record AreAllWithin (values : List (Option ℕ)) (limit : ℕ) (nodes : List ℕ) : Type 0 where
  pub right : (u : ℕ) → Contains nodes u → (1 ≤ u) × (u < length values) × (has_within values (Some limit) u ≡ true)
  pub each : (u : ℕ) → 1 ≤ u → has_within values (Some limit) u ≡ true → Contains nodes u

-- nodes that ascend, below this number
pub record AreNodesAmong (places : ℕ) (among : List ℕ) : Type 0 where
  pub nodes : All (λ u. (1 ≤ u) × (u < places)) among
  pub ascending : IsStrictlyIncreasing among

-- as many of these as are asked for, or all of them, have values up to the end
abbrev pub AreEnough : List (Option ℕ) → List ℕ → ℕ → ℕ → Type 0
AreEnough values among count end = min (length among) count ≤ count_by (has_within values (Some end)) among

-- the node as it is told
abbrev pub node_told_of : List (Option ℕ) → ℕ → NodeDistance
node_told_of values node = told_node node (value_or 0 values node)
