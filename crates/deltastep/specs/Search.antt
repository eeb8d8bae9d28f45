-- Words for a search from a source. A trip is a walk over the legs of a snapshot.
--     Trip groups s t legs          the legs lead from s to t
--     Reaches groups s t d          some trip from s to t has length d
--     AreReached groups source tentative          the source has 0, and each value is the length of some trip
--     IsSearch groups tentative queue b           values are below top_of groups, each queued node has its
--                                   tentative value, and no queued value is in a bucket below b
--     IsRelaxed groups part tentative u           no leg of the part leads to less than is known
--     IsRelaxedBut groups part tentative queue owed     so it is at each node that is neither queued nor owed
--     AreInBucket tentative width b nodes         the nodes' values are in bucket b
--     AreLiveFrom groups b queue        all queued values lie in ring_buckets buckets in a row, from bucket b on
--     AreLater width b queue            all queued values lie in buckets after bucket b
--     IsFinal groups tentative queue v  no queued value is below that of node v
--     MeetsRequests top requests ..     the nodes that changed took the value of a request and are queued with it,
--                                   and no request asks for less than is known now
use Rattle.std.specs.Prelude.{◌≡◌, ℕ, ◌+◌, ◌*◌, ◌-◌, ◌/◌, ◌<◌, ◌≤◌, ◌⊎◌, ◌≢◌, List, [], ◌∷◌, ◌++◌, length, map as list_map, sum_by, unwrap_or, IsSome, Contains, Option, Some, MatchOption}
use Rattle.relax.specs.Values.{value_at, value_or}
use Rattle.std.specs.FinMap as map
use Rattle.roadnet.specs.Net.{Net}
use Rattle.snapshot.specs.Groups.{Groups, IsGrouped, IsNarrowed, IsSnapshotOf, legs_of}
use Rattle.buckets.specs.Queue.{Entries}
use Rattle.snapshot.specs.declared.legs.Leg.{Leg}
use Rattle.snapshot.specs.declared.legs.Part.{Part}
use Rattle.snapshot.specs.declared.legs.Part.TheVariants.{Light, Heavy}

abbrev pub Trip : Groups → ℕ → ℕ → List Leg → Type 0
Trip groups s t [] = s ≡ t
Trip groups s t (leg ∷ legs) = (part : Part) × Contains (legs_of groups part s) leg × Trip groups leg.head t legs

abbrev pub trip_length : List Leg → ℕ
trip_length legs = sum_by (λ leg. leg.length) legs

pub record Reaches (groups : Groups) (s t d : ℕ) : Type 0 where
  pub legs : List Leg
  pub trip : Trip groups s t legs
  pub long : trip_length legs ≡ d

-- one above the length of every walk that visits no node twice
unfoldable pub top_of : Groups → ℕ
top_of groups = (groups.nodes - 1) * 2147483647 + 1

-- the source has 0, and each tentative value is the length of a trip from it
pub record AreReached (groups : Groups) (source : ℕ) (tentative : List (Option ℕ)) : Type 0 where
  pub starts : value_at tentative source ≡ Some 0
  pub reached : (u x : ℕ) → value_at tentative u ≡ Some x → Reaches groups source u x

pub record IsSearch (groups : Groups) (tentative : List (Option ℕ)) (queue : Entries) (b : ℕ) : Type 0 where
  pub places : length tentative ≡ groups.nodes + 1
  pub node : (u x : ℕ) → value_at tentative u ≡ Some x → 1 ≤ u
  pub below_top : (u x : ℕ) → value_at tentative u ≡ Some x → x < top_of groups
  pub queued : (u x : ℕ) → map.get queue u ≡ Some x → value_at tentative u ≡ Some x
  pub above : (u x : ℕ) → map.get queue u ≡ Some x → b ≤ x / groups.delta

abbrev pub IsRelaxed : Groups → Part → List (Option ℕ) → ℕ → Type 0
IsRelaxed groups part tentative u = (leg : Leg) → Contains (legs_of groups part u) leg → value_or (top_of groups) tentative leg.head ≤ value_or (top_of groups) tentative u + leg.length

abbrev pub IsRelaxedBut : Groups → Part → List (Option ℕ) → Entries → List ℕ → Type 0
IsRelaxedBut groups part tentative queue owed = (u : ℕ) → IsSome (map.get queue u) ⊎ (Contains owed u ⊎ IsRelaxed groups part tentative u)

pub record IsInBucket (tentative : List (Option ℕ)) (width b u : ℕ) : Type 0 where
  pub value : ℕ
  pub has : value_at tentative u ≡ Some value
  pub within : value / width ≡ b

abbrev pub AreInBucket : List (Option ℕ) → ℕ → ℕ → List ℕ → Type 0
AreInBucket tentative width b nodes = (u : ℕ) → Contains nodes u → IsInBucket tentative width b u

-- the requests of one node, given its value: for each of these legs in order its head and the sum
abbrev pub requests_by : ℕ → List Leg → List (ℕ × ℕ)
requests_by value legs = list_map (λ leg. (leg.head, value + leg.length)) legs

-- a node that took the value of a request
pub record TookRequest (top : ℕ) (requests : List (ℕ × ℕ)) (old new : List (Option ℕ)) (queue : Entries) (u : ℕ) : Type 0 where
  pub value : ℕ
  pub asked : Contains requests (u, value)
  pub lower : value < value_or top old u
  pub has : value_at new u ≡ Some value
  pub queued : map.get queue u ≡ Some value

pub record MeetsRequests (top : ℕ) (requests : List (ℕ × ℕ)) (old : List (Option ℕ)) (queue : Entries) (new : List (Option ℕ)) (queue' : Entries) : Type 0 where
  pub places : length new ≡ length old
  pub moves : (u : ℕ) → ((value_at new u ≡ value_at old u) × (map.get queue' u ≡ map.get queue u)) ⊎ TookRequest top requests old new queue' u
  pub met : (u value : ℕ) → Contains requests (u, value) → value_or top new u ≤ value

-- twice the sum of the values plus the number of queued nodes: it falls while the search goes on
abbrev pub weight : ℕ → List (Option ℕ) → Entries → ℕ
weight top tentative queue = 2 * sum_by (λ value. unwrap_or value top) tentative + map.len queue

-- how many buckets in a row the values live in: the quotient rounded up, and one more
abbrev pub ring_buckets : ℕ → ℕ → ℕ
ring_buckets greatest width = (greatest + (width - 1)) / width + 1

-- a ring has at most so many lists
abbrev pub most_lists : ℕ
most_lists = 65536

-- so many lists does a ring need, or nothing where that is more than it may have
abbrev pub IsRingSize : ℕ → ℕ → Option ℕ → Type 0
IsRingSize greatest width size = MatchOption size (most_lists < ring_buckets greatest width) (λ n. (n ≡ ring_buckets greatest width) × (n ≤ most_lists))

-- the values that a search may put while it settles bucket b fit
abbrev pub FitsFrom : (ℕ → Type 0) → Groups → ℕ → Type 0
FitsFrom accepts groups b = (value : ℕ) → b ≤ value / groups.delta → value / groups.delta < b + ring_buckets groups.greatest groups.delta → accepts value

-- all values that are queued lie in as many buckets in a row as a ring needs, from bucket b on
abbrev pub AreLiveFrom : Groups → ℕ → Entries → Type 0
AreLiveFrom groups b queue = (u x : ℕ) → map.get queue u ≡ Some x → (b ≤ x / groups.delta) × (x / groups.delta < b + ring_buckets groups.greatest groups.delta)

-- .. from some bucket on
pub record AreLive (groups : Groups) (queue : Entries) : Type 0 where
  pub first : ℕ
  pub live : AreLiveFrom groups first queue

-- a queue of this width and window suits a snapshot
pub record IsSuited (groups : Groups) (delta span : ℕ) : Type 0 where
  pub width : delta ≡ groups.delta
  pub window : ring_buckets groups.greatest groups.delta ≤ span

-- what a queue has to be for a search of the snapshot: empty, open to the value 0, of the snapshot's width, and with room for all values that live at once
pub record Suits (groups : Groups) (entries : Entries) (accepts : ℕ → Type 0) (width span : ℕ) : Type 0 where
  pub empty : entries ≡ map.empty
  pub first : accepts 0
  pub suited : IsSuited groups width span

-- some queued value is in bucket b
pub record HasQueued (tentative : List (Option ℕ)) (queue : Entries) (width b : ℕ) : Type 0 where
  pub node : ℕ
  pub value : ℕ
  pub has : value_at tentative node ≡ Some value
  pub queued : map.get queue node ≡ Some value
  pub within : value / width ≡ b

-- nothing that is queued is in bucket b
abbrev pub IsBucketEmpty : ℕ → ℕ → Entries → Type 0
IsBucketEmpty width b queue = (u x : ℕ) → map.get queue u ≡ Some x → x / width ≢ b

-- all that is queued is in buckets after bucket b
abbrev pub AreLater : ℕ → ℕ → Entries → Type 0
AreLater width b queue = (u x : ℕ) → map.get queue u ≡ Some x → b < x / width

-- no queued value is below that of node v, so that no trip to v that is not known yet is shorter
abbrev pub IsFinal : Groups → List (Option ℕ) → Entries → ℕ → Type 0
IsFinal groups tentative queue v = (u x : ℕ) → map.get queue u ≡ Some x → value_or (top_of groups) tentative v ≤ x

-- a phase that relaxed the light arcs of the nodes that were owed, and after which the nodes `next` were taken
pub record EndsPhase (groups : Groups) (b : ℕ) (old : List (Option ℕ)) (queue : Entries) (new : List (Option ℕ)) (queue' : Entries) (next : List ℕ) : Type 0 where
  pub search : IsSearch groups new queue' b
  pub reached : (source : ℕ) → AreReached groups source old → AreReached groups source new
  pub light : IsRelaxedBut groups Light new queue' next
  pub heavy : (owed : List ℕ) → IsRelaxedBut groups Heavy old queue owed → IsRelaxedBut groups Heavy new queue' (owed ++ next)
  pub nodes : AreInBucket new groups.delta b next
  pub stays : (others : List ℕ) → AreInBucket old groups.delta b others → AreInBucket new groups.delta b others

-- a bucket in which nothing is left, and whose light legs are relaxed, and the heavy legs of all but the nodes that are remembered
pub record EmptiesBucket (groups : Groups) (b : ℕ) (old new : List (Option ℕ)) (queue' : Entries) (remembered : List ℕ) : Type 0 where
  pub search : IsSearch groups new queue' b
  pub reached : (source : ℕ) → AreReached groups source old → AreReached groups source new
  pub light : IsRelaxedBut groups Light new queue' []
  pub heavy : IsRelaxedBut groups Heavy new queue' remembered
  pub nodes : AreInBucket new groups.delta b remembered
  pub emptied : IsBucketEmpty groups.delta b queue'

-- a search between two buckets
pub record IsBetweenBuckets (groups : Groups) (source : ℕ) (tentative : List (Option ℕ)) (queue : Entries) : Type 0 where
  pub search : IsSearch groups tentative queue 0
  pub reached : AreReached groups source tentative
  pub light : IsRelaxedBut groups Light tentative queue []
  pub heavy : IsRelaxedBut groups Heavy tentative queue []

-- .. from each source from which the values are lengths of trips
abbrev pub IsBetweenFromReached : Groups → List (Option ℕ) → Entries → Type 0
IsBetweenFromReached groups tentative queue = (source : ℕ) → AreReached groups source tentative → IsBetweenBuckets groups source tentative queue

-- a snapshot of the network, or one that is narrowed from such a one
pub record IsNarrowedOf (net : Net) (groups : Groups) : Type 0 where
  pub wide : Groups
  pub grouped : IsGrouped wide
  pub snapshot : IsSnapshotOf net wide
  pub narrowed : IsNarrowed wide groups
