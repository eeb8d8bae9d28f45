-- What a store is to those who call it: numbers and a network, and nothing of its pages but how many are unchecked, how many there are, and which slot
-- is current.
use Rattle.std.specs.Prelude.{◌≡◌, ℕ, Bool, false, not, ◌&&◌, ◌==◌, ◌+◌, ◌-◌, ◌≤◌, is_none, unwrap_or, List, length, Option, Some}
use Rattle.disk.specs.declared.disk.Disk.{Ghosts}
use Rattle.disk.specs.Moments.{LeavesOnly}
use Rattle.roadnet.specs.declared.commands.Command.{Command}
use Rattle.roadnet.specs.declared.refusals.Refusal.{Refusal}
use Rattle.roadnet.specs.Net.{Net}
use Rattle.pages.specs.declared.content.Slot.{Slot}
use Rattle.pages.specs.Layout.{slot_pages, pages_for}
use Rattle.pages.specs.Limits.{most_versions}
use Rattle.pagereader.specs.Outcomes.{failures_with}
use Rattle.storefile.specs.StoreFile.{StandsFor, StandsTidyFor}
use Rattle.storefile.specs.Standing.{Standing, standing_of, IsBeforeOrAfter}
use Rattle.store.specs.declared.paged.state.Paged.{Paged}
use Rattle.store.specs.Committing.{HasTidyStanding, refusal_of_commit}
use Rattle.store.specs.Durable.{going_of}
use Rattle.store.specs.Going.{Progress}

pub record StoreState (D : Type 0) : Type 0 where
  pub disk : D
  -- the disk as it was when the store was made or opened
  pub given : D
  -- the durable network, and its version
  pub network : Net
  pub version : ℕ
  -- the slot that is current, which holds the last checkpoint, and its epoch
  pub slot : Slot
  pub epoch : ℕ
  -- how many pages of the journal no checkpoint has made needless, and how many it has
  pub unchecked : ℕ
  pub journal_pages : ℕ
  -- how many pages a checkpoint has to write
  pub checkpoint_pages : ℕ
  -- a write failed
  pub broken : Bool
  -- the checkpoint that is going
  pub going : Option Progress
  -- the groups in flight: those of the commit that failed, where one did
  pub in_flight : List (List Command)

-- none of its numbers is past what a store has room for
pub record HasRoom {D : Type 0} (s : StoreState D) : Type 0 where
  pub version_to : s.version ≤ most_versions
  pub unchecked_to : s.unchecked ≤ s.journal_pages
  pub checkpoint_pages_to : s.checkpoint_pages ≤ 196930

-- how many pages a checkpoint has to write, in a store that was made with so many arcs, of a network with this room: one for each 1,023 arcs
-- that there may be, and one for each 511 that may be laid
abbrev pub checkpoint_pages_of : ℕ → Net → ℕ
checkpoint_pages_of first net = pages_for 1023 net.room + pages_for 511 (net.room - first)

-- a checkpoint has as many pages to write as that; the arcs that the store was made with are among the network's
abbrev pub HasCheckpointPages : {D : Type 0} → StoreState D → Type 0
HasCheckpointPages s = (first : ℕ) × (first ≤ length s.network.arcs) × (s.checkpoint_pages ≡ checkpoint_pages_of first s.network)

-- the state of a store with these pages, that was given this disk and has these commands in flight
abbrev pub state_of : {D : Type 0} {disk : Ghosts D} → Paged D disk → D → List (List Command) → StoreState D
state_of pages given in_flight = record {
  disk = pages.disk;
  given = given;
  network = pages.found.network;
  version = pages.found.version;
  slot = pages.found.slot;
  epoch = pages.found.epoch;
  unchecked = pages.found.unchecked;
  journal_pages = pages.found.header.journal_pages;
  checkpoint_pages = slot_pages pages.found.header;
  broken = pages.broken;
  going = going_of pages;
  in_flight = in_flight;
}

-- ---- what the disk holds

-- the content stands for something, tidily
abbrev pub IsTidy : List ℕ → Type 0
IsTidy content = (x : Standing) × HasTidyStanding content x

-- The store came tidy: the disk that it was given keeps the disk model, and its content stood for something, tidily.
abbrev pub CameTidy : {D : Type 0} → (D → Type 0) → (D → List ℕ) → D → Type 0
CameTidy honest content given = honest given × IsTidy (content given)

-- what a store tells of its content
pub record Told : Type 0 where
  pub network : Net
  pub version : ℕ
  pub slot : Slot
  pub epoch : ℕ
  pub unchecked : ℕ
  pub journal_pages : ℕ
  pub checkpoint_pages : ℕ

abbrev pub told : {D : Type 0} → StoreState D → Told
told s = record { network = s.network; version = s.version; slot = s.slot; epoch = s.epoch; unchecked = s.unchecked; journal_pages = s.journal_pages; checkpoint_pages = s.checkpoint_pages }

abbrev pub told_of : Standing → Told
told_of x = record { network = x.network; version = x.version; slot = x.slot; epoch = x.epoch; unchecked = x.unchecked; journal_pages = x.header.journal_pages; checkpoint_pages = slot_pages x.header }

-- the content stands for this network at this version
abbrev pub HasVersion : List ℕ → Net → ℕ → Type 0
HasVersion content net version = (next : ℕ) × StandsFor content net version next

-- The content stands for what is told.
pub record HasTold (content : List ℕ) (t : Told) : Type 0 where
  pub standing : Standing
  pub is : standing_of content ≡ Some standing
  pub told_is : told_of standing ≡ t

-- Nothing was committed since the store was made or opened: the disk that it was given keeps the disk model, and its content stood, tidy or not,
-- for the network and version that the store has now.
abbrev pub HasCommittedNothing : {D : Type 0} → (D → Type 0) → (D → List ℕ) → StoreState D → Type 0
HasCommittedNothing honest content s = honest s.given × HasVersion (content s.given) s.network s.version

-- the content stands, tidy, for the network and version of the store
abbrev pub IsDurable : {D : Type 0} → StoreState D → List ℕ → Type 0
IsDurable s content = StandsTidyFor s.journal_pages s.checkpoint_pages content s.network s.version

-- the same, or for those after these commands
abbrev pub IsDurableOrAfter : {D : Type 0} → StoreState D → List (List Command) → List ℕ → Type 0
IsDurableOrAfter s commands content = IsBeforeOrAfter s.journal_pages s.checkpoint_pages s.network s.version commands content

-- the content stands, tidily, for this network at this version, with so many journal pages and a slot for the network's room
abbrev pub IsNewFor : ℕ → Net → ℕ → List ℕ → Type 0
IsNewFor journal_pages net version content = StandsTidyFor journal_pages (checkpoint_pages_of (length net.arcs) net) content net version

-- this holds while the store, which came tidy, is not broken
abbrev pub WhileTidy : {D : Type 0} → (D → Type 0) → (D → List ℕ) → StoreState D → Type 0 → Type 0
WhileTidy honest content s P = CameTidy honest content s.given → s.broken ≡ false → P

-- this holds until the first commit, while the store is not broken
abbrev pub BeforeCommit : {D : Type 0} → (D → Type 0) → (D → List ℕ) → StoreState D → Type 0 → Type 0
BeforeCommit honest content s P = HasCommittedNothing honest content s → s.broken ≡ false → P

-- a stop at any moment of a call leaves what stands for the network and version of the store, or for those after these groups
abbrev pub LeavesDurableOrAfter : {D : Type 0} → (D → ℕ) → (D → ℕ → List ℕ → Type 0) → List (List Command) → StoreState D → StoreState D → Type 0
LeavesDurableOrAfter moment left_since groups old new = LeavesOnly moment left_since old.disk new.disk (IsDurableOrAfter old groups)

-- ---- what calls refuse and do

-- the count of failures rises by one where 43 is told, and else not at all
abbrev pub IsCountedBy : {D : Type 0} → (D → ℕ) → D → (Refusal × D) → Type 0
IsCountedBy failures before refused = failures refused.1 ≡ failures_with refused.0 (failures before)

-- why a commit of these commands is refused whatever memory and the disk give
abbrev pub commit_refusal : {D : Type 0} → StoreState D → List (List Command) → Option Refusal
commit_refusal s commands = refusal_of_commit s.broken s.version s.unchecked s.journal_pages s.network commands

-- it is neither broken nor has a checkpoint going
abbrev pub is_calm : {D : Type 0} → StoreState D → Bool
is_calm s = not s.broken && is_none s.going

-- the checkpoint that a part is of: the one that is going, or else one that begins
abbrev pub going_checkpoint_of : {D : Type 0} → StoreState D → Progress
going_checkpoint_of s = unwrap_or s.going (record { version = s.version; left = s.checkpoint_pages; committed = 0 })

-- none is going, and no page of the journal is unchecked
abbrev pub has_none_unchecked : {D : Type 0} → StoreState D → Bool
has_none_unchecked s = is_none s.going && (s.unchecked == 0)
