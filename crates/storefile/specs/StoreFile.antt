-- What a store file stands for: facts about single pages of it, and what they say together.
use Rattle.std.specs.List.{flat_map}
use Rattle.std.specs.Prelude.{◌≡◌, ℕ, ◌+◌, ◌-◌, ◌*◌, ◌<◌, ◌≤◌, Bool, false, ◌&&◌, ◌==◌, IsTrue, List, [], ◌∷◌, length, take, drop, map, slice_index, Some}
use Rattle.byteorder.specs.Endian.{big_number}
use Rattle.disk.specs.Gated.{open_byte}
use Rattle.roadnet.specs.declared.commands.Command.{Command}
use Rattle.roadnet.specs.Net.{Net}
use Rattle.roadnet.specs.Step.{after}
use Rattle.pages.specs.declared.header.Header.{Header}
use Rattle.pages.specs.declared.content.Slot.{Slot}
use Rattle.pages.specs.declared.content.Format.{Format}
use Rattle.pages.specs.declared.content.Format.TheVariants.{Two}
use Rattle.pages.specs.Contents.{Head}
use Rattle.pages.specs.Spelling.{SpelledHeader, SpelledArcs, SpelledWords, SpelledHead, SpelledEntry, ends_of, word_of}
use Rattle.pages.specs.Layout.{Arcs, HeadOf, Words, EndsOf, Journal, places_in_use, arc_pages, word_pages, end_pages, slot_pages, other, page_number, page_count, journal_place_of}
use Rattle.pages.specs.Limits.{page_size, gate_at, most_versions}

-- ---- pages

-- the page of this number of a file
abbrev pub page : List ℕ → ℕ → List ℕ
page file k = take page_size (drop (page_size * k) file)

-- In what follows a file is seen by its pages: `pages k` is its page k.

-- of items in pages of so many places, those of the i-th page
abbrev pub part : {X : Type 0} → ℕ → ℕ → List X → List X
part places i xs = take places (drop (places * i) xs)

-- the gate of a page, its last byte, is open
abbrev pub is_open : List ℕ → Bool
is_open page = slice_index page gate_at == open_byte

-- a page's first number: the epoch of a slot's head, the sequence of a journal page
abbrev pub first_field : List ℕ → ℕ
first_field page = big_number 8 page

-- the number of the page at the place of this sequence
abbrev pub journal_page_at : Header → ℕ → ℕ
journal_page_at h q = page_number h (Journal (journal_place_of h q))

-- the page at the place of this sequence is open and has this sequence
abbrev pub is_standing : (ℕ → List ℕ) → Header → ℕ → Bool
is_standing pages h q = is_open (pages (journal_page_at h q)) && (first_field (pages (journal_page_at h q)) == q)

-- ---- what is stored

-- The sizes; the current slot, with its head's numbers and its network; and the groups of the journal pages behind it, page by page.
-- `sequence` is that of the first of these pages, and `version` that of the slot's network.
pub record Stored : Type 0 where
  pub header : Header
  pub slot : Slot
  pub epoch : ℕ
  pub version : ℕ
  pub sequence : ℕ
  pub network : Net
  pub unchecked : List (List (List Command))

-- the groups of these pages, one after the other
abbrev pub joined : List (List (List Command)) → List (List Command)
joined pages = flat_map (λ groups. groups) pages

abbrev pub groups_of : Stored → List (List Command)
groups_of s = joined s.unchecked

-- the sequence of the page that is written next
abbrev pub next_sequence : Stored → ℕ
next_sequence s = s.sequence + length s.unchecked

-- what the current slot's head says
abbrev pub head_of : Stored → Head
head_of s = record { epoch = s.epoch; version = s.version; next_sequence = s.sequence; arcs = length s.network.arcs; landmarks = s.network.landmarks }

-- the arc pages spell the ends of the first arcs, those that the store was made with; the network has these, and the header's room
pub record HoldsArcs (pages : ℕ → List ℕ) (h : Header) (net : Net) : Type 0 where
  pub nodes_are : net.nodes ≡ h.nodes
  pub room_is : net.room ≡ h.room
  pub count_from : h.arcs ≤ length net.arcs
  pub each : (i : ℕ) → i < arc_pages h → SpelledArcs h.nodes (places_in_use 511 i h.arcs) (pages (page_number h (Arcs i))) (map ends_of (part 511 i (take h.arcs net.arcs)))

-- the slot is open, and where the other is open too, that one's epoch is lower
pub record IsCurrent (pages : ℕ → List ℕ) (h : Header) (slot : Slot) : Type 0 where
  pub opened : IsTrue (is_open (pages (page_number h (HeadOf slot))))
  pub above :
      IsTrue (is_open (pages (page_number h (HeadOf (other slot)))))
      → first_field (pages (page_number h (HeadOf (other slot)))) < first_field (pages (page_number h (HeadOf slot)))

-- the slot's head page spells this head, with the landmarks of the network, its word pages the words of the network's arcs, and its end
-- pages the ends of those arcs that the arc pages do not have
pub record HoldsSlot (pages : ℕ → List ℕ) (h : Header) (slot : Slot) (head : Head) (net : Net) : Type 0 where
  pub head_is : SpelledHead h (pages (page_number h (HeadOf slot))) head
  pub words : (i : ℕ) → i < word_pages h → SpelledWords (places_in_use 1023 i (length net.arcs)) (pages (page_number h (Words slot i))) (map word_of (part 1023 i net.arcs))
  pub ends : (i : ℕ) → i < end_pages h → SpelledArcs h.nodes (places_in_use 511 i (length net.arcs - h.arcs)) (pages (page_number h (EndsOf slot i))) (map ends_of (part 511 i (drop h.arcs net.arcs)))

-- the pages of the sequences from q on stand and hold these groups, page by page; the first group has number v + 1
abbrev pub HoldsJournal : (ℕ → List ℕ) → Header → ℕ → ℕ → List (List (List Command)) → Type 0
HoldsJournal pages h q v [] = Unit {0}
HoldsJournal pages h q v (groups ∷ rest) =
    IsTrue (is_standing pages h q)
    × SpelledEntry h.format (pages (journal_page_at h q)) (record { sequence = q; first_number = v + 1; groups = groups })
    × HoldsJournal pages h (q + 1) (v + length groups) rest

-- The file of this size and with these pages stores this. Its journal is the longest list of pages that stand one after the other from
-- the slot's next sequence on, at most as many as the journal has pages.
pub record Stores (size : ℕ) (pages : ℕ → List ℕ) (s : Stored) : Type 0 where
  pub header : SpelledHeader (pages 0) s.header
  pub opened : IsTrue (is_open (pages 0))
  pub size_is : size ≡ page_size * page_count s.header
  pub arcs : HoldsArcs pages s.header s.network
  pub current : IsCurrent pages s.header s.slot
  pub held : HoldsSlot pages s.header s.slot (head_of s) s.network
  pub journal : HoldsJournal pages s.header s.sequence s.version s.unchecked
  pub few : length s.unchecked ≤ s.header.journal_pages
  pub longest : length s.unchecked < s.header.journal_pages → is_standing pages s.header (next_sequence s) ≡ false
  pub versions_to : s.version + length (groups_of s) ≤ most_versions

-- the same of a file, as a list of bytes
abbrev pub IsStoreOf : List ℕ → Stored → Type 0
IsStoreOf file s = Stores (length file) (page file) s

-- ---- what a file stands for

-- what is stored gives this network at this version: that of the slot with the groups behind it carried out, each a version
pub record GivesNetwork (s : Stored) (net : Net) (version : ℕ) : Type 0 where
  pub network : after s.network (groups_of s) ≡ Some net
  pub version_is : version ≡ s.version + length (groups_of s)

-- the same, with what is stored shown: the file stores it, it gives this network and version, and the page of this sequence is written next
pub record HoldsNetwork (file : List ℕ) (s : Stored) (net : Net) (version next : ℕ) : Type 0 where
  pub is : IsStoreOf file s
  pub gives : GivesNetwork s net version
  pub next_is : next ≡ next_sequence s

-- The file, in this format, stands for this network at this version, and the page of this sequence is written next.
abbrev pub StandsIn : Format → List ℕ → Net → ℕ → ℕ → Type 0
StandsIn format file net version next = (s : Stored) × HoldsNetwork file s net version next × (s.header.format ≡ format)

-- The same in the format in which stores are made and opened.
abbrev pub StandsFor : List ℕ → Net → ℕ → ℕ → Type 0
StandsFor file net version next = StandsIn Two file net version next

-- ---- tidiness

-- no page of the journal that is open and stands at the place of its sequence has this sequence or a later one
abbrev pub HasNoLaterPage : (ℕ → List ℕ) → Header → ℕ → Type 0
HasNoLaterPage pages h next = (q : ℕ) → next ≤ q → is_standing pages h q ≡ false

-- the file stands for this network, version and next sequence by what it stores, and no page of its journal is of that sequence or a later one
pub record HoldsNetworkTidily (file : List ℕ) (s : Stored) (net : Net) (version next : ℕ) : Type 0 where
  pub stands : HoldsNetwork file s net version next
  pub tidy : HasNoLaterPage (page file) s.header next

-- The file is tidy, its journal has so many pages and a checkpoint writes so many, and it stands for this network at this version.
abbrev pub StandsTidyFor : ℕ → ℕ → List ℕ → Net → ℕ → Type 0
StandsTidyFor journal_pages checkpoint_pages file net version =
    (s : Stored) × (next : ℕ) × HoldsNetworkTidily file s net version next × (s.header.journal_pages ≡ journal_pages) × (slot_pages s.header ≡ checkpoint_pages) × (s.header.format ≡ Two)
