-- What the definitions of a store file say together.
use Rattle.std.specs.Prelude.{◌≡◌, ◌≢◌, ℕ, ◌+◌, ◌*◌, ◌<◌, ◌≤◌, ◌↔◌, true, false, List, length, Some, None}
use Rattle.disk.specs.Gated.{SameOutside}
use Rattle.roadnet.specs.declared.commands.Command.{Command}
use Rattle.pages.specs.declared.content.Format.{Format}
use Rattle.pages.specs.declared.content.Format.TheVariants.{One, Two}
use Rattle.roadnet.specs.Net.{Net, IsNetwork}
use Rattle.roadnet.specs.Step.{after}
use Rattle.pages.specs.declared.header.Header.{Header}
use Rattle.pages.specs.declared.content.Slot.{Slot}
use Rattle.pages.specs.Spelling.{SpelledEntry}
use Rattle.pages.specs.Layout.{HeadOf, other, slot_pages, page_number}
use Rattle.storefile.specs.StoreFile.{page, is_open, head_of, Stored, Stores, HoldsSlot, HasNoLaterPage, StandsIn, HoldsNetwork, HoldsNetworkTidily, journal_page_at}
use Rattle.storefile.specs.Standing.{IsStoredAs, Standing, standing_of, with_groups, with_other_slot, LeadsTo}
use Rattle.storefile.specs.Judging.{judged_in}
use Rattle.pages.specs.Limits.{page_size, most_versions}

-- ---- what a file stands for

-- A file stands for one network, version and next sequence at most, in either format.
abbrev pub AtMostOne : Type 0
AtMostOne =
    (format : Format) (file : List ℕ) (net net' : Net) (v v' q q' : ℕ) → StandsIn format file net v q → StandsIn format file net' v' q'
    → (net ≡ net') × (v ≡ v') × (q ≡ q')

-- No file stands for something in both formats.
abbrev pub InOneFormat : Type 0
InOneFormat = (file : List ℕ) (net net' : Net) (v v' q q' : ℕ) → StandsIn One file net v q → StandsIn Two file net' v' q' → ⊥

-- What stands for something is not refused.
abbrev pub IsNotRefused : Type 0
IsNotRefused = (format : Format) (file : List ℕ) (net : Net) (v q : ℕ) → StandsIn format file net v q → judged_in format file ≡ None

-- What is not refused stands for something.
abbrev pub UnrefusedMeansSomething : Type 0
UnrefusedMeansSomething = (format : Format) (file : List ℕ) → judged_in format file ≡ None → (net : Net) × (v : ℕ) × (q : ℕ) × StandsIn format file net v q

-- What is stored is a network, and so is that for which a file stands.
abbrev pub StoresNetworks : Type 0
StoresNetworks = (size : ℕ) (pages : ℕ → List ℕ) (s : Stored) → Stores size pages s → IsNetwork s.network

abbrev pub GivesNetworks : Type 0
GivesNetworks = (format : Format) (file : List ℕ) (net : Net) (v q : ℕ) → StandsIn format file net v q → IsNetwork net × (v ≤ most_versions)

-- Opening a file tells what it is stored as, and that alone.
abbrev pub StandingIsStored : Type 0
StandingIsStored = (file : List ℕ) (x : Standing) → (standing_of file ≡ Some x) ↔ IsStoredAs file x.header x.slot x.epoch x.network x.version x.next x.unchecked

-- ---- a file that changes

-- pages that differ in this one at most
abbrev pub SameBut : ℕ → (ℕ → List ℕ) → (ℕ → List ℕ) → Type 0
SameBut k pages pages' = (j : ℕ) → j ≢ k → pages' j ≡ pages j

-- While the page that is written next is closed, its bytes mean nothing: the file stands for the same and stays tidy.
abbrev pub ClosedPageMeansNothing : Type 0
ClosedPageMeansNothing =
    (file file' : List ℕ) (s : Stored) (net : Net) (v q : ℕ) → HoldsNetworkTidily file s net v q → length s.unchecked < s.header.journal_pages
    → SameOutside (page_size * journal_page_at s.header q) page_size file file' → is_open (page file' (journal_page_at s.header q)) ≡ false
    → HoldsNetworkTidily file' s net v q

-- Once that page is open and spells groups that follow, the file stands for the network after them, with one page more, and stays tidy.
abbrev pub OpenPageIsOneMore : Type 0
OpenPageIsOneMore =
    (file file' : List ℕ) (s : Stored) (net net' : Net) (v q : ℕ) (groups : List (List Command)) → HoldsNetworkTidily file s net v q → length s.unchecked < s.header.journal_pages
    → SameOutside (page_size * journal_page_at s.header q) page_size file file' → is_open (page file' (journal_page_at s.header q)) ≡ true
    → SpelledEntry s.header.format (page file' (journal_page_at s.header q)) (record { sequence = q; first_number = v + 1; groups = groups })
    → v + length groups ≤ most_versions → after net groups ≡ Some net'
    → HoldsNetworkTidily file' (with_groups s groups) net' (v + length groups) (q + 1)

-- While the slot that is not current is closed, the bytes of its head, word pages and end pages mean nothing.
abbrev pub ClosedSlotMeansNothing : Type 0
ClosedSlotMeansNothing =
    (file file' : List ℕ) (s : Stored) (net : Net) (v q : ℕ) → HoldsNetwork file s net v q
    → SameOutside (page_size * page_number s.header (HeadOf (other s.slot))) (page_size * (slot_pages s.header + 1)) file file'
    → is_open (page file' (page_number s.header (HeadOf (other s.slot)))) ≡ false
    → HoldsNetwork file' s net v q

-- Once that slot is open, with a greater epoch, and holds a network from which journal pages lead to what the file stands for, it is current,
-- and the file stands for the same by those pages.
abbrev pub OpenSlotIsCurrent : Type 0
OpenSlotIsCurrent =
    (file file' : List ℕ) (s : Stored) (net from : Net) (v q epoch from_version from_next : ℕ) (behind : List (List (List Command))) → HoldsNetwork file s net v q
    → SameOutside (page_size * page_number s.header (HeadOf (other s.slot))) (page_size * (slot_pages s.header + 1)) file file'
    → is_open (page file' (page_number s.header (HeadOf (other s.slot)))) ≡ true
    → s.epoch < epoch → LeadsTo (page file) s.header from from_version from_next behind net v q → length behind ≤ s.header.journal_pages
    → HoldsSlot (page file') s.header (other s.slot) (head_of (with_other_slot s epoch from from_version from_next behind)) from
    → HoldsNetwork file' (with_other_slot s epoch from from_version from_next behind) net v q

-- The bytes of a slot make no page of the journal: a tidy file stays tidy, whatever is written there.
abbrev pub SlotsKeepTidy : Type 0
SlotsKeepTidy =
    (file file' : List ℕ) (h : Header) (slot : Slot) (q : ℕ) → HasNoLaterPage (page file) h q
    → SameOutside (page_size * page_number h (HeadOf (other slot))) (page_size * (slot_pages h + 1)) file file'
    → HasNoLaterPage (page file') h q
