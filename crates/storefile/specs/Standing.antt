-- What a store's file stands for between calls, and while a page of its journal is written.
use Rattle.std.specs.Prelude.{◌≡◌, ◌⊎◌, ℕ, ◌+◌, ◌≤◌, List, [], ◌∷◌, ◌++◌, length, Option, Some, None, Result, Ok, Err}
use Rattle.roadnet.specs.declared.commands.Command.{Command}
use Rattle.roadnet.specs.declared.refusals.Refusal.{Refusal}
use Rattle.roadnet.specs.Net.{Net}
use Rattle.roadnet.specs.Step.{after}
use Rattle.pages.specs.declared.header.Header.{Header}
use Rattle.pages.specs.declared.content.Slot.{Slot}
use Rattle.pages.specs.declared.content.Format.TheVariants.{Two}
use Rattle.pages.specs.Contents.{Entry}
use Rattle.pages.specs.Spelling.{IsHeader}
use Rattle.pages.specs.Layout.{other}
use Rattle.storefile.specs.StoreFile.{page, joined, Stored, HoldsJournal, HoldsNetwork, StandsTidyFor, HasNoLaterPage, groups_of, next_sequence}
use Rattle.storefile.specs.Judging.{opened}
use Rattle.pages.specs.Limits.{most_versions}

-- The file, in the format in which stores are opened, has these sizes and this current slot of this epoch, stands for this network at this
-- version, the page of this sequence is written next, and so many pages of its journal are unchecked.
pub record IsStoredAs (file : List ℕ) (h : Header) (slot : Slot) (epoch : ℕ) (net : Net) (version next unchecked : ℕ) : Type 0 where
  pub stored : Stored
  pub stands : HoldsNetwork file stored net version next
  pub header_is : stored.header ≡ h
  pub format_is : stored.header.format ≡ Two
  pub slot_is : stored.slot ≡ slot
  pub epoch_is : stored.epoch ≡ epoch
  pub unchecked_is : unchecked ≡ length stored.unchecked

-- the same, told by opening the file
pub record Standing : Type 0 where
  pub header : Header
  pub slot : Slot
  pub epoch : ℕ
  pub network : Net
  pub version : ℕ
  pub next : ℕ
  pub unchecked : ℕ

abbrev pub standing_in : Result (Stored × Net) Refusal → Option Standing
standing_in (Err refusal) = None
standing_in (Ok x) = Some (record {
  header = x.0.header;
  slot = x.0.slot;
  epoch = x.0.epoch;
  network = x.1;
  version = x.0.version + length (groups_of x.0);
  next = next_sequence x.0;
  unchecked = length x.0.unchecked;
})

abbrev pub standing_of : List ℕ → Option Standing
standing_of file = standing_in (opened file)

-- the file has no page of its journal that is of this sequence or a later one
abbrev pub IsTidyAt : List ℕ → Header → ℕ → Type 0
IsTidyAt file h next = HasNoLaterPage (page file) h next

-- the numbers of a store, of which none is past what its pages can spell
pub record HasFitStoreNumbers (h : Header) (epoch version next unchecked : ℕ) : Type 0 where
  pub header : IsHeader h
  pub version_to : version ≤ most_versions
  pub next_to : next ≤ version
  pub epoch_to : epoch + unchecked ≤ next + 1
  pub unchecked_to : unchecked ≤ h.journal_pages
  pub unchecked_from : unchecked ≤ next

-- what is stored once this page of groups is written too
abbrev pub with_groups : Stored → List (List Command) → Stored
with_groups s groups = record s { unchecked = s.unchecked ++ groups ∷ [] }

-- what is stored once the other slot holds this network, at this epoch, version and next sequence, and the journal holds these pages
-- behind it
abbrev pub with_other_slot : Stored → ℕ → Net → ℕ → ℕ → List (List (List Command)) → Stored
with_other_slot s epoch network version sequence behind =
    record { header = s.header; slot = other s.slot; epoch = epoch; version = version; sequence = sequence; network = network; unchecked = behind }

-- The journal holds these pages from one sequence on, and they lead from one network and version to another; the page that follows them has
-- the last sequence.
pub record LeadsTo (pages : ℕ → List ℕ) (h : Header) (from : Net) (from_version from_next : ℕ) (groups : List (List (List Command))) (to : Net) (version next : ℕ) : Type 0 where
  pub held : HoldsJournal pages h from_next from_version groups
  pub network : after from (joined groups) ≡ Some to
  pub version_is : version ≡ from_version + length (joined groups)
  pub next_is : next ≡ from_next + length groups

-- the journal page that holds these groups behind what is stored
abbrev pub entry_behind : Stored → List (List Command) → Entry
entry_behind s groups = record { sequence = next_sequence s; first_number = s.version + length (groups_of s) + 1; groups = groups }

-- what a stop within the commit of these groups may leave: the file stands for what it stood for, or for what it stands for after them
abbrev pub IsBeforeOrAfter : ℕ → ℕ → Net → ℕ → List (List Command) → List ℕ → Type 0
IsBeforeOrAfter journal_pages checkpoint_pages net version groups file =
    StandsTidyFor journal_pages checkpoint_pages file net version
    ⊎ ((net' : Net) × (after net groups ≡ Some net') × StandsTidyFor journal_pages checkpoint_pages file net' (version + length groups))
