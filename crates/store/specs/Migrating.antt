-- What a store that is made of another one is, and why there is none: a copy, or one of format 1 that is migrated.
use Rattle.std.specs.Prelude.{◌≡◌, ◌≢◌, ◌⊎◌, ◌↔◌, ⊤, ℕ, Bool, true, false, IsTrue, List, [], length, Option, Some, None, unwrap_or, Result, MatchResult, IfOk, IfErr, OnOk}
use Rattle.roadnet.specs.declared.refusals.Refusal.{Refusal}
use Rattle.roadnet.specs.declared.refusals.Refusal.TheVariants.{NotEmpty, TooLarge, OutOfMemory, Device}
use Rattle.roadnet.specs.Net.{Net, IsRoomFor}
use Rattle.pages.specs.declared.content.Format.{Format}
use Rattle.pages.specs.declared.content.Slot.TheVariants.{A}
use Rattle.pagereader.specs.Outcomes.{ends_opening}
use Rattle.storefile.specs.StoreFile.{Stored, HoldsNetwork}
use Rattle.disk.specs.declared.disk.Disk.{Ghosts}
use Rattle.disk.specs.Contents.{one_more, Only}
use Rattle.disk.specs.Moments.{StaysSame}
use Rattle.store.specs.Created.{IsNewFile}
use Rattle.store.specs.Opening.{HeaderFitsIn}
use Rattle.store.specs.State.{StoreState, checkpoint_pages_of, IsDurable, IsTidy, HasTold, told as told_of_store}
use Rattle.storefile.specs.Judging.{judged_in}

-- the room that is given, or that which the network has
abbrev pub room_of : Net → Option ℕ → ℕ
room_of net None = net.room
room_of net (Some room) = room

-- the network with that room
abbrev pub roomed : Net → Option ℕ → Net
roomed net room = record net { room = room_of net room }

-- The old content stands, in this format, for a network at this version; this network is that one with the room that is given. So many journal pages are
-- those that are given, or those of the old store.
pub record IsCopyIn (format : Format) (old : List ℕ) (net : Net) (version journal_pages : ℕ) (room journal : Option ℕ) : Type 0 where
  pub stored : Stored
  pub before : Net
  pub next : ℕ
  pub stands : HoldsNetwork old stored before version next
  pub format_is : stored.header.format ≡ format
  pub pages_are : journal_pages ≡ unwrap_or journal stored.header.journal_pages
  pub network_is : net ≡ roomed before room

-- the room that is given is none for the network of the old store
pub record HasNoSuchRoomForOld (old : List ℕ) (room : Option ℕ) : Type 0 where
  pub stored : Stored
  pub before : Net
  pub version : ℕ
  pub next : ℕ
  pub stands : HoldsNetwork old stored before version next
  pub unfit : ¬ IsRoomFor before (room_of before room)

-- A copy is refused so, and the new disk has this content: with 46 it is not empty, with each other refusal but 43 it is.
abbrev pub IsRefusedForNew : List ℕ → Refusal → Type 0
IsRefusedForNew new NotEmpty = new ≢ []
IsRefusedForNew new Device = ⊤
IsRefusedForNew new other = new ≡ []

-- A copy is refused so, and the old disk has this content: 40 to 42 is what opening it in this format refuses; 9 comes for the room; and 11 where the
-- header fits the file.
abbrev pub IsRefusedForOld : Format → List ℕ → Option ℕ → Refusal → Type 0
IsRefusedForOld format old room TooLarge = HasNoSuchRoomForOld old room
IsRefusedForOld format old room OutOfMemory = HeaderFitsIn format old
IsRefusedForOld format old room NotEmpty = ⊤
IsRefusedForOld format old room Device = ⊤
IsRefusedForOld format old room other = judged_in format old ≡ Some other

-- where 43 is told one call of one of the two disks has failed, and else none
abbrev pub CountsCopyFailure : Refusal → ℕ → ℕ → ℕ → ℕ → Type 0
CountsCopyFailure Device old old' new new' = ((old' ≡ one_more old) × (new' ≡ new)) ⊎ ((old' ≡ old) × (new' ≡ one_more new))
CountsCopyFailure other old old' new new' = (old' ≡ old) × (new' ≡ new)

abbrev pub CountsCopy : {O D : Type 0} → (O → ℕ) → (D → ℕ) → O → O → D → Result (StoreState D) (Refusal × D) → Type 0
CountsCopy of_old of_new old old' new result = MatchResult result
    (λ store. (of_old old' ≡ of_old old) × (of_new store.disk ≡ of_new new))
    (λ refused. CountsCopyFailure refused.0 (of_old old) (of_old old') (of_new new) (of_new refused.1))

-- the refusals with which a copy may end, whatever the disks: those of an opening, a disk that is not empty, a room that is none
abbrev pub ends_copying : Refusal → Bool
ends_copying NotEmpty = true
ends_copying TooLarge = true
ends_copying other = ends_opening other

abbrev pub MayEndCopying : Refusal → Type 0
MayEndCopying refusal = IsTrue (ends_copying refusal)

-- A store is made on the new disk, of the one that the old disk has in this format, with this room and so many journal pages; or none is made, and the new
-- disk is handed back.
pub record Copies {O D : Type 0} (from : Ghosts O) (to : Ghosts D) (format : Format) (room journal : Option ℕ) (old old' : O) (new : D) (result : Result (StoreState D) (Refusal × D)) : Type 0 where
  -- The old content stands, in this format, for the network at this version, its room apart. Each content that a stop may leave on the new disk stands,
  -- tidy, for the network with its room at that version.
  pub copied : from.honest old → IfOk result (λ store. IsCopyIn format (from.content old) store.network store.version store.journal_pages room journal)
  pub stands : to.honest new → IfOk result (λ store. IsDurable store (to.content store.disk))
  -- The file is that of a new store, made on an empty disk: its journal begins with page 0.
  pub made : to.honest new → IfOk result (λ store. IsNewFile store.journal_pages store.network store.version (to.content store.disk))
  pub empty : to.honest new → OnOk result (to.content new ≡ [])
  pub only : to.honest new → IfOk result (λ store. Only (to.content store.disk) (to.left store.disk))
  pub left : to.honest new → IfOk result (λ store. (c : List ℕ) → to.left store.disk c → IsDurable store c)
  pub tidy : to.honest new → IfOk result (λ store. IsTidy (to.content store.disk))
  pub told : to.honest new → IfOk result (λ store. HasTold (to.content store.disk) (told_of_store store))
  pub checkpoint_pages : IfOk result (λ store. store.checkpoint_pages ≡ checkpoint_pages_of (length store.network.arcs) store.network)
  pub unchecked : IfOk result (λ store. store.unchecked ≡ 0)
  pub slot : IfOk result (λ store. (store.slot ≡ A) × (store.epoch ≡ 1))
  pub works : IfOk result (λ store. store.broken ≡ false)
  pub none_going : IfOk result (λ store. store.going ≡ None)
  pub none_in_flight : IfOk result (λ store. store.in_flight ≡ [])
  pub given : IfOk result (λ store. store.given ≡ store.disk)
  -- Each refusal depends on one disk: 46 on the new one, which is empty at every other refusal except 43; 40 to 42, 9 and 11 on the old one.
  pub refused_for_new : to.honest new → IfErr result (λ refused. IsRefusedForNew (to.content new) refused.0)
  pub refused_for_old : from.honest old → IfErr result (λ refused. IsRefusedForOld format (from.content old) room refused.0)
  pub causes : IfErr result (λ refused. MayEndCopying refused.0)
  -- If 43 is reported, one call of one of the disks has failed; otherwise none has.
  pub counted : CountsCopy from.failures to.failures old old' new result
  -- The old store is untouched. At each refusal except 43 the new disk is untouched too.
  pub untouched : from.honest old → StaysSame from.content from.left from.moment from.left_since old old'
  pub same : to.honest new → IfErr result (λ refused. refused.0 ≢ Device → StaysSame to.content to.left to.moment to.left_since new refused.1)
  pub honest : from.honest old' ↔ from.honest old
  pub honest_new : (IfOk result (λ store. to.honest store.disk ↔ to.honest new)) × (IfErr result (λ refused. to.honest refused.1 ↔ to.honest new))
