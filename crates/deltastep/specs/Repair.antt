-- What is left of a row after a change. A leg is tight where its tail's distance and its length add up to its head's distance.
--     AreChanged before after nodes      each other node has the same legs in both snapshots
--     HasLeg groups u leg                the leg is one of node u, light or heavy
--     IsLost source tentative v          node v has no value, or is the source
--     IsKeptOf source row tentative      the source has 0, and each value is that of the row
--     AreGoneLost before after ..        each tight leg of node u is still there, or its head is lost
--     IsSpread groups source row tentative u     the tight legs of node u lead to lost nodes
--     IsClosedBut groups .. lost         so it is at each node that has no value and is not on the list
--     IsUntouched before after row u     the tight legs of node u are still there, and no leg of it leads to less than the row has
use Rattle.std.specs.Prelude.{◌≡◌, ℕ, ◌+◌, ◌≤◌, ◌⊎◌, suc, List, ◌++◌, length, All, IsSome, Contains, Option, None, Some, unwrap_or}
use Rattle.relax.specs.Values.{value_at}
use Rattle.std.specs.FinMap as map
use Rattle.buckets.specs.Queue.{Entries}
use Rattle.roadnet.specs.Walks.{distance_at}
use Rattle.snapshot.specs.Groups.{Groups, legs_of}
use Rattle.snapshot.specs.declared.legs.Leg.{Leg}
use Rattle.snapshot.specs.declared.legs.Part.{Part}
use Rattle.deltastep.specs.Search.{IsRelaxed}

abbrev pub AreChanged : Groups → Groups → List ℕ → Type 0
AreChanged before after nodes = (u : ℕ) → Contains nodes u ⊎ ((part : Part) → legs_of before part u ≡ legs_of after part u)

abbrev pub HasLeg : Groups → ℕ → Leg → Type 0
HasLeg groups u leg = (part : Part) × Contains (legs_of groups part u) leg

abbrev pub IsLost : ℕ → List (Option ℕ) → ℕ → Type 0
IsLost source tentative v = (v ≡ source) ⊎ (value_at tentative v ≡ None)

pub record IsKeptOf (source : ℕ) (row tentative : List (Option ℕ)) : Type 0 where
  pub places : length tentative ≡ suc (length row)
  pub starts : value_at tentative source ≡ Some 0
  pub kept : (u : ℕ) → (value_at tentative u ≡ None) ⊎ (value_at tentative u ≡ distance_at row u)

-- the tight ones of these legs, of a tail with this distance, lead to lost nodes
abbrev pub LeadToLost : ℕ → List (Option ℕ) → List (Option ℕ) → ℕ → List Leg → Type 0
LeadToLost source row tentative value legs = All (λ leg. distance_at row leg.head ≡ Some (value + leg.length) → IsLost source tentative leg.head) legs

-- the tight ones of these legs of node u, of this distance, are still there or lead to lost nodes
abbrev pub AreThereOrLost : Groups → ℕ → List (Option ℕ) → List (Option ℕ) → ℕ → ℕ → List Leg → Type 0
AreThereOrLost after source row tentative u value legs =
    All (λ leg. distance_at row leg.head ≡ Some (value + leg.length) → HasLeg after u leg ⊎ IsLost source tentative leg.head) legs

abbrev pub AreGoneLost : Groups → Groups → ℕ → List (Option ℕ) → List (Option ℕ) → ℕ → Type 0
AreGoneLost before after source row tentative u =
    (value : ℕ) → distance_at row u ≡ Some value → (part : Part) → AreThereOrLost after source row tentative u value (legs_of before part u)

abbrev pub IsSpread : Groups → ℕ → List (Option ℕ) → List (Option ℕ) → ℕ → Type 0
IsSpread groups source row tentative u = (value : ℕ) → distance_at row u ≡ Some value → (part : Part) → LeadToLost source row tentative value (legs_of groups part u)

abbrev pub IsClosedBut : Groups → ℕ → List (Option ℕ) → List (Option ℕ) → List ℕ → Type 0
IsClosedBut groups source row tentative lost = (u : ℕ) → value_at tentative u ≡ None → Contains lost u ⊎ IsSpread groups source row tentative u

-- the tight ones of these legs of node u, of this distance, are still there
abbrev pub AreThere : Groups → List (Option ℕ) → ℕ → ℕ → List Leg → Type 0
AreThere after row u value legs = All (λ leg. distance_at row leg.head ≡ Some (value + leg.length) → HasLeg after u leg) legs

-- none of these legs, of a tail with this distance, leads to less than the row has, whatever number stands for no distance
abbrev pub AreFeasible : List (Option ℕ) → ℕ → List Leg → Type 0
AreFeasible row value legs = (none : ℕ) → All (λ leg. unwrap_or (distance_at row leg.head) none ≤ value + leg.length) legs

abbrev pub IsUntouched : Groups → Groups → List (Option ℕ) → ℕ → Type 0
IsUntouched before after row u =
    (value : ℕ) → distance_at row u ≡ Some value → (part : Part) → AreThere after row u value (legs_of before part u) × AreFeasible row value (legs_of after part u)

-- each queued node has its tentative value
abbrev pub AreQueued : List (Option ℕ) → Entries → Type 0
AreQueued tentative queue = (u x : ℕ) → map.get queue u ≡ Some x → value_at tentative u ≡ Some x

-- some values were taken away, but not the source's
pub record IsThinner (source : ℕ) (old new : List (Option ℕ)) : Type 0 where
  pub places : length new ≡ length old
  pub starts : value_at new source ≡ value_at old source
  pub moves : (u : ℕ) → (value_at new u ≡ None) ⊎ (value_at new u ≡ value_at old u)

-- .. and each node that lost its value was put on the list
pub record Thins (source : ℕ) (old : List (Option ℕ)) (lost : List ℕ) (new : List (Option ℕ)) (lost' : List ℕ) : Type 0 where
  pub thinner : IsThinner source old new
  pub grows : (more : List ℕ) × (lost' ≡ lost ++ more)
  pub more : (u : ℕ) → value_at new u ≡ None → Contains lost' u ⊎ (value_at old u ≡ None)

-- the node is among those that owe, or no leg of it leads to less than is known
abbrev pub IsNodeLooked : Groups → List (Option ℕ) → (ℕ → Type 0) → ℕ → Type 0
IsNodeLooked groups tentative owes u = owes u ⊎ ((part : Part) → IsRelaxed groups part tentative u)

-- each of these nodes has a value
abbrev pub HaveValues : List (Option ℕ) → List ℕ → Type 0
HaveValues tentative nodes = (u : ℕ) → Contains nodes u → IsSome (value_at tentative u)

-- for each leg there is one back, from its head to its tail
abbrev pub AreTails : Groups → Groups → Type 0
AreTails back groups = (part : Part) (u : ℕ) (leg : Leg) → Contains (legs_of groups part u) leg → (way : Part) × (l : Leg) × Contains (legs_of back way leg.head) l × (l.head ≡ u)

-- each node with a leg to this node was looked at
abbrev pub AreTailsLooked : Groups → Groups → List (Option ℕ) → (ℕ → Type 0) → ℕ → Type 0
AreTailsLooked groups back tentative owes w = (part : Part) → All (λ leg. IsNodeLooked groups tentative owes leg.head) (legs_of back part w)

-- each node with a distance in the row and no value is on the list
abbrev pub AreListed : List (Option ℕ) → List (Option ℕ) → List ℕ → Type 0
AreListed row tentative lost = (u : ℕ) → value_at tentative u ≡ None → Contains lost u ⊎ (distance_at row u ≡ None)
