-- Words for a search that is led to a target by lower bounds of what is left of each way. Its queue is told as a relation: which entry, a node with a value,
-- stands in which bucket.
--     IsConsistent groups potential         no leg makes the potential fall by more than its length
--     IsLowerBound groups target u bound    no trip from u to the target is shorter
--     IsStart groups target u value start   no trip to the target by way of u, with this value of u, is shorter
--     IsKey groups target tentative u key   so it is with the value of u
--     IsGuided groups source target width tentative queue     a search whose entries stand in buckets by keys
--     IsLive tentative queue u              an entry of u with the value of u is queued
--     IsDone groups part tentative queue u  node u has a live entry, or its legs of this part are relaxed
--     SearchGoesOn groups target ..         what steps of a search keep, of which each queues what it lowers
--     IsBest groups tentative target        no known node has a trip to the target that is less than what is known of it
use Rattle.std.specs.Prelude.{◌≡◌, ℕ, ◌+◌, ◌*◌, ◌/◌, ◌<◌, ◌≤◌, ◌^◌, ◌⊎◌, List, length, sum_by, unwrap_or, Contains, Option, MatchOption, Some, slice_set}
use Rattle.relax.specs.Values.{value_at, value_or}
use Rattle.snapshot.specs.Groups.{Groups, IsGrouped, legs_of}
use Rattle.snapshot.specs.declared.legs.Leg.{Leg}
use Rattle.snapshot.specs.declared.legs.Part.{Part}
use Rattle.frontier.specs.declared.entries.EntryRing.{EntryRing}
use Rattle.frontier.specs.Entries.{entry_count}
use Rattle.frontier.specs.Keyed.{IsPutInto, StandsAt}
use Rattle.deltastep.specs.declared.questions.guided.KeyedSearch.{KeyedSearch}
use Rattle.deltastep.specs.Search.{Trip, trip_length, top_of, AreReached, IsRelaxed}

abbrev pub IsConsistent : Groups → (ℕ → ℕ) → Type 0
IsConsistent groups potential = (part : Part) (u : ℕ) (leg : Leg) → Contains (legs_of groups part u) leg → potential u ≤ leg.length + potential leg.head

abbrev pub IsLowerBound : Groups → ℕ → ℕ → ℕ → Type 0
IsLowerBound groups target u bound = (legs : List Leg) → Trip groups u target legs → bound ≤ trip_length legs

-- A consistent potential that is 0 at the target is at each node a lower bound.
abbrev pub ConsistentIsLowerBound : Type 0
ConsistentIsLowerBound = (groups : Groups) (potential : ℕ → ℕ) (target : ℕ) → IsConsistent groups potential → potential target ≡ 0 → (u : ℕ) → IsLowerBound groups target u (potential u)

abbrev pub IsStart : Groups → ℕ → ℕ → ℕ → ℕ → Type 0
IsStart groups target u value start = (legs : List Leg) → Trip groups u target legs → start ≤ value + trip_length legs

pub record IsKey (groups : Groups) (target : ℕ) (tentative : List (Option ℕ)) (u key : ℕ) : Type 0 where
  pub value : ℕ
  pub has : value_at tentative u ≡ Some value
  pub below : IsStart groups target u value key

pub record IsGuided (groups : Groups) (source target width : ℕ) (tentative : List (Option ℕ)) (queue : ℕ → ℕ × ℕ → Type 0) : Type 0 where
  pub places : length tentative ≡ groups.nodes + 1
  pub node : (u x : ℕ) → value_at tentative u ≡ Some x → 1 ≤ u
  pub below_top : (u x : ℕ) → value_at tentative u ≡ Some x → x < top_of groups
  pub reached : AreReached groups source tentative
  pub nodes : (b : ℕ) (e : ℕ × ℕ) → queue b e → (1 ≤ e.0) × (e.0 ≤ groups.nodes)
  pub keys : (b : ℕ) (e : ℕ × ℕ) → queue b e → IsStart groups target e.0 e.1 (b * width)
  pub small : (b : ℕ) (e : ℕ × ℕ) → queue b e → b * width < 2 ^ 64

pub record IsLive (tentative : List (Option ℕ)) (queue : ℕ → ℕ × ℕ → Type 0) (u : ℕ) : Type 0 where
  pub value : ℕ
  pub has : value_at tentative u ≡ Some value
  pub bucket : ℕ
  pub stands : queue bucket (u, value)

abbrev pub IsDone : Groups → Part → List (Option ℕ) → (ℕ → ℕ × ℕ → Type 0) → ℕ → Type 0
IsDone groups part tentative queue u = IsLive tentative queue u ⊎ IsRelaxed groups part tentative u

-- the sum of the values plus the number of entries: it falls while the search goes on
abbrev pub entry_weight : ℕ → List (Option ℕ) → ℕ → ℕ
entry_weight top tentative entries = sum_by (λ value. unwrap_or value top) tentative + entries

pub record SearchGoesOn (groups : Groups) (target width start : ℕ) (old : List (Option ℕ)) (queue : ℕ → ℕ × ℕ → Type 0) (entries : ℕ) (new : List (Option ℕ)) (queue' : ℕ → ℕ × ℕ → Type 0) (entries' : ℕ) : Type 0 where
  pub state : (source : ℕ) → IsGuided groups source target width old queue → IsGuided groups source target width new queue'
  pub moves : (u : ℕ) → (value_at new u ≡ value_at old u) ⊎ IsLive new queue' u
  pub adds : (b : ℕ) (e : ℕ × ℕ) → queue b e → queue' b e
  pub falls : (u : ℕ) → value_or (top_of groups) new u ≤ value_or (top_of groups) old u
  pub stays : (u : ℕ) → IsKey groups target old u start → IsKey groups target new u start
  pub weighs : entry_weight (top_of groups) new entries' ≤ entry_weight (top_of groups) old entries

abbrev pub IsBest : Groups → List (Option ℕ) → ℕ → Type 0
IsBest groups tentative target = (u : ℕ) (legs : List Leg) → Trip groups u target legs → value_or (top_of groups) tentative target ≤ value_or (top_of groups) tentative u + trip_length legs

-- No trip to the target by way of a node of this value is shorter than the key, where none is shorter than the start.
abbrev pub KeyStaysBelow : (Groups → Type 0) → (target node value start key : ℕ) → Type 0
KeyStaysBelow Knows target node value start key =
    (groups : Groups) → Knows groups → IsGrouped groups → 1 ≤ node → node ≤ groups.nodes → (legs : List Leg) → Trip groups node target legs → start ≤ value + trip_length legs → key ≤ value + trip_length legs

-- ---- of a search by keys

-- which entry of a ring stands in which bucket
abbrev pub stands_in : EntryRing → ℕ → ℕ × ℕ → Type 0
stands_in ring = StandsAt ring.last ring.lists.items

abbrev pub IsUnderWayTo : Groups → (source target : ℕ) → KeyedSearch → Type 0
IsUnderWayTo groups source target s = IsGuided groups source target s.ring.delta s.tentative (stands_in s.ring)

abbrev pub HasDone : Groups → Part → KeyedSearch → ℕ → Type 0
HasDone groups part s u = IsDone groups part s.tentative (stands_in s.ring) u

abbrev pub GoesOnTo : Groups → (target start : ℕ) → KeyedSearch → KeyedSearch → Type 0
GoesOnTo groups target start old new = SearchGoesOn groups target old.ring.delta start old.tentative (stands_in old.ring) (entry_count old.ring.lists.items) new.tentative (stands_in new.ring) (entry_count new.ring.lists.items)

-- it keeps the width of its buckets, and those that fit
pub record KeepsWindow (old new : EntryRing) : Type 0 where
  pub width : new.delta ≡ old.delta
  pub last : new.last ≡ old.last
  pub size : length new.lists.items ≡ length old.lists.items

-- a node that got this value, with an entry in the bucket of this key
pub record IsLoweredTo (old new : KeyedSearch) (node value key : ℕ) : Type 0 where
  pub tentative : new.tentative ≡ slice_set old.tentative node (Some value)
  pub queued : IsPutInto (stands_in old.ring) (stands_in new.ring) (key / old.ring.delta) (node, value)
  pub more : entry_count new.ring.lists.items ≡ entry_count old.ring.lists.items + 1

-- .. with the key that is given where it lowers the node's value
abbrev pub LowersByKey : ℕ → ℕ → KeyedSearch → KeyedSearch → Option ℕ → Type 0
LowersByKey node value old new key = MatchOption key ((new.tentative ≡ old.tentative) × (new.ring ≡ old.ring)) (IsLoweredTo old new node value)

-- a search by keys ends with values that are lengths of trips
abbrev pub EndsReached : Groups → ℕ → KeyedSearch → List (Option ℕ) → Type 0
EndsReached groups target old new = (source : ℕ) → IsUnderWayTo groups source target old → AreReached groups source new
