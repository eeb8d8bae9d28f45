-- What the steps of a search keep and come to, in one word each: for contracts of searches over any frontier.
use Rattle.std.specs.Prelude.{◌≡◌, ℕ, ◌<◌, ◌≤◌, Bool, List, [], ◌∷◌, ◌++◌, Option, MatchOption, MatchBool}
use Rattle.std.specs.FinMap as map
use Rattle.snapshot.specs.Groups.{Groups}
use Rattle.snapshot.specs.declared.legs.Part.{Part}
use Rattle.buckets.specs.Queue.{Entries}
use Rattle.frontier.specs.declared.frontier.Frontier.{Ghosts}
use Rattle.frontier.specs.Frontier.{TakesAny}
use Rattle.deltastep.specs.declared.searches.search.Search.{Search}
use Rattle.deltastep.specs.Search.{AreInBucket, AreLater, AreLive, AreLiveFrom, AreReached, FitsFrom, HasQueued, IsBetweenBuckets, IsBucketEmpty, IsRelaxedBut, IsSearch, IsSuited, MeetsRequests, weight}

-- ---- a search

-- its values, and what is queued, from bucket b on
abbrev pub IsUnderWay : {F : Type 0} → Ghosts F → Groups → Search F → ℕ → Type 0
IsUnderWay q groups s b = IsSearch groups (q.tentative s.frontier) (q.entries s.frontier) b

-- nothing that is queued is in a bucket
abbrev pub IsEmptyAt : {F : Type 0} → Ghosts F → ℕ → ℕ → Search F → Type 0
IsEmptyAt q width b s = IsBucketEmpty width b (q.entries s.frontier)

-- .. or something is
abbrev pub IsQueuedAt : {F : Type 0} → Ghosts F → ℕ → ℕ → Search F → Type 0
IsQueuedAt q width b s = HasQueued (q.tentative s.frontier) (q.entries s.frontier) width b

-- all but these nodes, and those that are queued, have the legs of a part relaxed
abbrev pub OwesOnly : {F : Type 0} → Ghosts F → Groups → Part → Search F → List ℕ → Type 0
OwesOnly q groups part s owed = IsRelaxedBut groups part (q.tentative s.frontier) (q.entries s.frontier) owed

-- its queue is as wide as the snapshot's buckets, and has room for what lives at once
abbrev pub HasWidth : {F : Type 0} → Ghosts F → Groups → Search F → Type 0
HasWidth q groups s = IsSuited groups (q.width s.frontier) (q.span s.frontier)

-- what is put while bucket b is settled fits
abbrev pub HasRoomFrom : {F : Type 0} → Ghosts F → Groups → Search F → ℕ → Type 0
HasRoomFrom q groups s b = FitsFrom (q.accepts s.frontier) groups b

-- from each source
abbrev pub IsBetween : {F : Type 0} → Ghosts F → Groups → ℕ → Search F → Type 0
IsBetween q groups source s = IsBetweenBuckets groups source (q.tentative s.frontier) (q.entries s.frontier)

-- ---- a step of it

abbrev pub StaysBetween : {F : Type 0} → Ghosts F → Groups → Search F → Search F → Type 0
StaysBetween q groups old new = (source : ℕ) → IsBetween q groups source old → IsBetween q groups source new

-- the values are lengths of trips from each source from which they were
abbrev pub StaysReached : {F : Type 0} → Ghosts F → Groups → Search F → Search F → Type 0
StaysReached q groups old new = (source : ℕ) → AreReached groups source (q.tentative old.frontier) → AreReached groups source (q.tentative new.frontier)

-- nodes whose values are in bucket b keep them there
abbrev pub KeepsInBucket : {F : Type 0} → Ghosts F → Groups → ℕ → Search F → Search F → Type 0
KeepsInBucket q groups b old new = (others : List ℕ) → AreInBucket (q.tentative old.frontier) groups.delta b others → AreInBucket (q.tentative new.frontier) groups.delta b others

-- it weighs no more, or less
abbrev pub WeighsNoMore : {F : Type 0} → Ghosts F → ℕ → Search F → Search F → Type 0
WeighsNoMore q top old new = weight top (q.tentative new.frontier) (q.entries new.frontier) ≤ weight top (q.tentative old.frontier) (q.entries old.frontier)

abbrev pub WeighsLess : {F : Type 0} → Ghosts F → ℕ → Search F → Search F → Type 0
WeighsLess q top old new = weight top (q.tentative new.frontier) (q.entries new.frontier) < weight top (q.tentative old.frontier) (q.entries old.frontier)

-- nothing comes into bucket b where that was empty
abbrev pub KeepsEmpty : {F : Type 0} → Ghosts F → ℕ → ℕ → Search F → Search F → Type 0
KeepsEmpty q width b old new = IsEmptyAt q width b old → IsEmptyAt q width b new

abbrev pub KeepsQueued : {F : Type 0} → Ghosts F → ℕ → ℕ → Search F → Search F → Type 0
KeepsQueued q width b old new = IsQueuedAt q width b old → IsQueuedAt q width b new

-- what lives from bucket b on goes on so
abbrev pub StaysLive : {F : Type 0} → Ghosts F → Groups → ℕ → Search F → Search F → Type 0
StaysLive q groups b old new = AreLiveFrom groups b (q.entries old.frontier) → AreLiveFrom groups b (q.entries new.frontier)

-- it meets these requests
abbrev pub Meets : {F : Type 0} → Ghosts F → ℕ → List (ℕ × ℕ) → Search F → Search F → Type 0
Meets q top requests old new = MeetsRequests top requests (q.tentative old.frontier) (q.entries old.frontier) (q.tentative new.frontier) (q.entries new.frontier)

-- all legs of the node are relaxed, and nothing else comes to be owed
abbrev pub RelaxesNode : {F : Type 0} → Ghosts F → Groups → ℕ → Search F → Search F → Type 0
RelaxesNode q groups node old new = (part : Part) (owed : List ℕ) → OwesOnly q groups part old (node ∷ owed) → OwesOnly q groups part new owed

-- it met these requests after all that came before them
abbrev pub MeetsOneMore : {F : Type 0} → Ghosts F → ℕ → ℕ × ℕ → Search F → Search F → Type 0
MeetsOneMore q top request old new =
    (requests : List (ℕ × ℕ)) (first : List (Option ℕ)) (queue : Entries) → MeetsRequests top requests first queue (q.tentative old.frontier) (q.entries old.frontier) → MeetsRequests top (requests ++ request ∷ []) first queue (q.tentative new.frontier) (q.entries new.frontier)

-- it queues a node with a value, or leaves the queue as it is
abbrev pub QueuesWhere : {F : Type 0} → Ghosts F → Bool → ℕ → ℕ → Search F → Search F → Type 0
QueuesWhere q lowers node value old new = MatchBool lowers (q.entries new.frontier ≡ map.insert (q.entries old.frontier) node value) (q.entries new.frontier ≡ q.entries old.frontier)

-- ---- a taking

-- the least bucket with its nodes, or nothing where no node was queued
abbrev pub TakesBucket : {F : Type 0} → Ghosts F → ℕ → List ℕ → Search F → Search F → Option ℕ → Type 0
TakesBucket q width taken old new bucket = MatchOption bucket (q.entries old.frontier ≡ map.empty) (λ b. TakesAny width (q.entries old.frontier) b taken (q.entries new.frontier))

-- where all that was queued lies in a window, it does so from the bucket on that was taken
abbrev pub TellsWindow : {F : Type 0} → Ghosts F → Groups → Search F → Search F → Option ℕ → Type 0
TellsWindow q groups old new bucket = MatchOption bucket (q.entries new.frontier ≡ map.empty) (λ b. AreLive groups (q.entries old.frontier) → AreLiveFrom groups b (q.entries old.frontier))

-- all that is queued is behind bucket b
abbrev pub IsBehind : {F : Type 0} → Ghosts F → ℕ → ℕ → Search F → Type 0
IsBehind q width b s = AreLater width b (q.entries s.frontier)

-- nothing is queued any more
abbrev pub IsOver : {F : Type 0} → Ghosts F → Search F → Type 0
IsOver q s = q.entries s.frontier ≡ map.empty
