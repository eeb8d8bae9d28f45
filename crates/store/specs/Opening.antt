-- The parts of opening a file.
use Rattle.std.specs.Prelude.{◌≡◌, ◌⊎◌, ◌≤◌, Some, ℕ, ◌+◌, ◌*◌, nat_le, ◌==◌, List, length, Result, Ok}
use Rattle.storefile.specs.StoreFile.{page, joined, StandsFor}
use Rattle.storefile.specs.Standing.{Standing, HasFitStoreNumbers}
use Rattle.store.specs.declared.opened.found.Found.{Found}
use Rattle.roadnet.specs.declared.commands.Command.{Command}
use Rattle.roadnet.specs.declared.refusals.Refusal.{Refusal}
use Rattle.roadnet.specs.declared.refusals.Refusal.TheVariants.{NotAStore, WrongFormat, Damaged, OutOfMemory, Device}
use Rattle.roadnet.specs.Net.{Net}
use Rattle.roadnet.specs.Step.{after}
use Rattle.pages.specs.declared.header.Header.{Header}
use Rattle.pages.specs.declared.content.Slot.{Slot}
use Rattle.pages.specs.Contents.{Head}
use Rattle.pages.specs.Layout.{page_count}
use Rattle.storefile.specs.Judging.{◌>>=◌, unless_so, spelled_at, begins_as_store, format_of, header_in, entry_in, ends_from, current_slot, journal_from, judged_in}
use Rattle.checkpoint.specs.Loading.{loaded_from}
use Rattle.pages.specs.Limits.{page_size, most_versions}
use Rattle.pages.specs.declared.content.Format.{Format}
use Rattle.pages.specs.declared.content.Format.TheVariants.{Two}
use Rattle.pages.specs.Formats.{format_number_of}

-- the header of a file of this format and this size, whose first page is this
abbrev pub header_from : Format → ℕ → List ℕ → Result Header Refusal
header_from format size page = do
  _ ← unless_so (begins_as_store size page) NotAStore
  _ ← unless_so (format_of page == format_number_of format) WrongFormat
  h ← spelled_at 0 (header_in page)
  _ ← unless_so (size == page_size * page_count h) (Damaged 0)
  Ok h

-- what is found there, as the file's standing
abbrev pub standing_by : Found → Standing
standing_by found = record { header = found.header; slot = found.slot; epoch = found.epoch; network = found.network; version = found.version; next = found.next_sequence; unchecked = found.unchecked }

-- the file begins with the header of a store of this format, and is as long as the header announces
abbrev pub HeaderFitsIn : Format → List ℕ → Type 0
HeaderFitsIn format file = (header : Header) × (header_from format (length file) (page file 0) ≡ Ok header)

abbrev pub HeaderFits : List ℕ → Type 0
HeaderFits file = HeaderFitsIn Two file

-- what the current slot holds
pub record Current : Type 0 where
  pub slot : Slot
  pub head : Head
  pub network : Net

-- the ends of the arcs, then the current slot
abbrev pub current_from : (ℕ → List ℕ) → Header → Result Current Refusal
current_from pages h = do
  ends ← ends_from pages h
  slot ← current_slot pages h
  loaded ← loaded_from pages h slot ends
  Ok (record { slot = slot; head = loaded.0; network = loaded.1 })

abbrev pub current_of : (Slot × Head × Net) → Current
current_of x = record { slot = x.0; head = x.1; network = x.2 }

-- the groups of the journal from this sequence on, page by page, and the network after them; that before is net, at version v
abbrev pub journal_of : (ℕ → List ℕ) → Header → ℕ → ℕ → Net → Result (List (List (List Command)) × Net) Refusal
journal_of pages h from v net = journal_from pages h h.journal_pages from v net

-- those behind a slot with this head and this network
abbrev pub journal_behind : (ℕ → List ℕ) → Header → Head → Net → Result (List (List (List Command)) × Net) Refusal
journal_behind pages h head net = journal_of pages h head.next_sequence head.version net

-- the groups of the journal page of this number, and the network after them; that before is net, at version v
abbrev pub entry_from : Format → ℕ → List ℕ → ℕ → Net → Result (List (List Command) × Net) Refusal
entry_from format k page v net = do
  e ← spelled_at k (entry_in format page)
  _ ← unless_so (e.first_number == v + 1) (Damaged k)
  _ ← unless_so (nat_le (v + length e.groups) most_versions) (Damaged k)
  next ← spelled_at k (after net e.groups)
  Ok (e.groups, next)

-- the groups of a page, and the network and version after them
pub record IsCarriedOut (said : Result (List (List Command) × Net) Refusal) (old : ℕ) (net : Net) (new : ℕ) : Type 0 where
  pub groups : List (List Command)
  pub said_is : said ≡ Ok (groups, net)
  pub version_is : new ≡ old + length groups

-- the groups of so many pages, page by page, and the network and version after them
pub record AreCarriedOut (said : Result (List (List (List Command)) × Net) Refusal) (count old : ℕ) (net : Net) (new : ℕ) : Type 0 where
  pub groups : List (List (List Command))
  pub said_is : said ≡ Ok (groups, net)
  pub count_is : length groups ≡ count
  pub version_is : new ≡ old + length (joined groups)

-- so many pages from this sequence on, which are the whole journal, lead from one network, at this version, to another
abbrev pub ReplaysJournal : (ℕ → List ℕ) → Header → ℕ → ℕ → ℕ → Net → Net → ℕ → Type 0
ReplaysJournal pages h from count version old net new = AreCarriedOut (journal_of pages h from version old) count version net new

-- what is found has this header and this slot, and the numbers that follow from the slot's head
pub record IsFoundBehind (h : Header) (slot : Slot) (head : Head) (found : Found) : Type 0 where
  pub header : found.header ≡ h
  pub slot_is : found.slot ≡ slot
  pub epoch : found.epoch ≡ head.epoch
  pub next : found.next_sequence ≡ head.next_sequence + found.unchecked

-- none of its numbers is past what its pages can spell, and the arcs that the store was made with are among the network's
pub record IsSound (found : Found) : Type 0 where
  pub numbers : HasFitStoreNumbers found.header found.epoch found.version found.next_sequence found.unchecked
  pub arcs_from : found.header.arcs ≤ length found.network.arcs

-- it has the network and the version after the journal behind that slot
abbrev pub HasJournalOf : (ℕ → List ℕ) → Header → Head → Net → Found → Type 0
HasJournalOf pages h head net found = AreCarriedOut (journal_behind pages h head net) found.unchecked head.version found.network found.version

-- a refusal that says nothing of the file: no memory was given, or the disk failed
abbrev pub IsPassing : Refusal → Type 0
IsPassing refusal = (refusal ≡ OutOfMemory) ⊎ (refusal ≡ Device)

-- with what opening this file, in this format, may be refused: as the format says, or passingly
abbrev pub MayRefuseToOpenIn : Format → List ℕ → Refusal → Type 0
MayRefuseToOpenIn format file refusal = IsPassing refusal ⊎ (judged_in format file ≡ Some refusal)

abbrev pub MayRefuseToOpen : List ℕ → Refusal → Type 0
MayRefuseToOpen file refusal = MayRefuseToOpenIn Two file refusal

abbrev pub IsStoreFile : List ℕ → Type 0
IsStoreFile file = (net : Net) × (version : ℕ) × (next : ℕ) × StandsFor file net version next
