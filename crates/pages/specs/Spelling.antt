-- The one spelling of each kind of page: its fields in order, numbers with the highest byte first, and zeros behind them.
use Rattle.std.specs.Prelude.{◌≡◌, ℕ, ◌+◌, ◌-◌, ◌^◌, ◌<◌, ◌≤◌, Bool, true, false, List, ◌∷◌, ◌++◌, length, take, drop, replicate, Option, Some, None, if◌then◌else◌}
use Rattle.std.specs.List.{flat_map, AllByRecursion}
use Rattle.std.specs.List.Sorted.{IsStrictlyIncreasing}
use Rattle.byteorder.specs.Endian.{big_bytes}
use Rattle.roadnet.specs.declared.arcs.RoadArc.{RoadArc}
use Rattle.roadnet.specs.declared.commands.Command.{Command}
use Rattle.roadnet.specs.declared.commands.Command.TheVariants.{Set, Close, Reopen, Mark, Unmark, Lay}
use Rattle.pages.specs.declared.content.Format.{Format}
use Rattle.pages.specs.declared.content.Record.{Record}
use Rattle.pages.specs.declared.content.Ends.{Ends}
use Rattle.pages.specs.declared.content.Word.{Word}
use Rattle.pages.specs.declared.header.Header.{Header}
use Rattle.pages.specs.Contents.{Head, Entry}
use Rattle.pages.specs.Limits.{magic, most_versions, most_commands}
use Rattle.pages.specs.Formats.{format_number_of, IsHeaderRoomFor, room_field, arcs_field, InTwo}
use Rattle.pages.specs.Grouping.{records_in}

unfoldable pub zeros : ℕ → List ℕ
zeros count = replicate count 0

-- the page of these fields: they stand at its beginning, and zeros behind them
unfoldable pub page_of : List ℕ → List ℕ
page_of fields = fields ++ zeros (4096 - length fields)

-- all of a page but its last byte, which is its gate
abbrev pub body : List ℕ → List ℕ
body page = take 4095 page

-- what a decoder tells: the content that is spelled, or that none is
abbrev pub Decodes : {X : Type 0} → (X → Type 0) → Option X → Type 0
Decodes {X = X} Spelled None = (content : X) → ¬ Spelled content
Decodes Spelled (Some content) = Spelled content

-- ---- the header

-- bytes 0 to 27: the magic, the number of the format, the nodes, the arcs that the store was made with, the journal's pages, the room
abbrev pub header_fields : Header → List ℕ
header_fields h = magic ++ big_bytes 4 (format_number_of h.format) ++ big_bytes 4 h.nodes ++ big_bytes 4 h.arcs ++ big_bytes 4 h.journal_pages ++ big_bytes 4 (room_field h.format h.room)

abbrev pub header_page : Header → List ℕ
header_page h = page_of (header_fields h)

pub record IsHeader (h : Header) : Type 0 where
  pub some_node : 1 ≤ h.nodes
  pub nodes_to : h.nodes ≤ 33554432
  pub arcs_to : h.arcs ≤ h.room
  pub room_to : h.room ≤ 67108864
  pub room_fits : IsHeaderRoomFor h.format h.arcs h.room
  pub some_page : 1 ≤ h.journal_pages
  pub pages_to : h.journal_pages ≤ 65536

-- whatever the gate
pub record SpelledHeader (page : List ℕ) (h : Header) : Type 0 where
  pub fits : IsHeader h
  pub spelled : body page ≡ body (header_page h)

-- ---- an arc page, and an end page

-- 8 bytes: the tail and the head
abbrev pub ends_bytes : Ends → List ℕ
ends_bytes e = big_bytes 4 e.tail ++ big_bytes 4 e.head

abbrev pub arc_page : List Ends → List ℕ
arc_page arcs = page_of (flat_map ends_bytes arcs)

-- both ends are among the nodes 1 to this one
pub record IsEnds (nodes : ℕ) (e : Ends) : Type 0 where
  pub tail_from : 1 ≤ e.tail
  pub tail_to : e.tail ≤ nodes
  pub head_from : 1 ≤ e.head
  pub head_to : e.head ≤ nodes

-- the page, its last byte too, spells the ends of so many arcs: an arc page those of the arcs that the store was made with, an end page
-- those of arcs laid since
pub record SpelledArcs (nodes count : ℕ) (page : List ℕ) (arcs : List Ends) : Type 0 where
  pub count_is : length arcs ≡ count
  pub fits : AllByRecursion (IsEnds nodes) arcs
  pub spelled : page ≡ arc_page arcs

-- what an arc page holds of an arc
abbrev pub ends_of : RoadArc → Ends
ends_of arc = record { tail = arc.tail; head = arc.head }

-- ---- a word page

-- a word as a number: the length, and the highest bit of 32 where the arc is closed
abbrev pub number_of : Word → ℕ
number_of w = w.length + (if w.opened then 0 else 2 ^ 31)

-- 4 bytes
abbrev pub bytes_of_word : Word → List ℕ
bytes_of_word w = big_bytes 4 (number_of w)

-- the page of words that are told as numbers
abbrev pub page_of_numbers : List ℕ → List ℕ
page_of_numbers numbers = page_of (flat_map (big_bytes 4) numbers)

abbrev pub word_page : List Word → List ℕ
word_page words = page_of (flat_map bytes_of_word words)

abbrev pub IsWord : Word → Type 0
IsWord w = w.length < 2 ^ 31

-- the page, its last byte too, spells so many words
pub record SpelledWords (count : ℕ) (page : List ℕ) (words : List Word) : Type 0 where
  pub count_is : length words ≡ count
  pub fits : AllByRecursion IsWord words
  pub spelled : page ≡ word_page words

-- what a word page holds of an arc
abbrev pub word_of : RoadArc → Word
word_of arc = record { length = arc.length; opened = arc.opened }

-- ---- the head of a slot

-- epoch, version, next sequence and the number of landmarks; in format 2 the number of arcs; then the landmarks
abbrev pub head_front : Format → Head → List ℕ
head_front f s = big_bytes 8 s.epoch ++ big_bytes 8 s.version ++ big_bytes 8 s.next_sequence ++ big_bytes 4 (length s.landmarks) ++ arcs_field f s.arcs

abbrev pub head_fields : Format → Head → List ℕ
head_fields f s = head_front f s ++ flat_map (big_bytes 4) s.landmarks

abbrev pub head_page : Format → Head → List ℕ
head_page f s = page_of (head_fields f s)

-- the ranges of a head's numbers, the last of which is that of landmarks
pub record AreHeadNumbersFit (epoch version next_sequence count : ℕ) : Type 0 where
  pub epoch_from : 1 ≤ epoch
  pub epoch_to : epoch ≤ next_sequence + 1
  pub sequence_to : next_sequence ≤ version
  pub version_to : version ≤ most_versions
  pub count_to : count ≤ 1000

-- so many arcs: those that the store was made with are there, and no more than there is room for
abbrev pub AreArcsOf : Header → ℕ → Type 0
AreArcsOf h arcs = (h.arcs ≤ arcs) × (arcs ≤ h.room)

-- the head of a slot of a store of these sizes
pub record IsHead (h : Header) (s : Head) : Type 0 where
  pub numbers : AreHeadNumbersFit s.epoch s.version s.next_sequence (length s.landmarks)
  pub arcs : AreArcsOf h s.arcs
  pub ascending : IsStrictlyIncreasing s.landmarks
  pub each : AllByRecursion (λ x. (1 ≤ x) × (x ≤ h.nodes)) s.landmarks

-- whatever the gate
pub record SpelledHead (h : Header) (page : List ℕ) (s : Head) : Type 0 where
  pub fits : IsHead h s
  pub spelled : body page ≡ body (head_page h.format s)

-- ---- a record

-- 16 bytes: the kind, whether the group goes on, three numbers
abbrev pub record_with : ℕ → ℕ → ℕ → ℕ → ℕ → List ℕ
record_with kind more a b c = kind ∷ more ∷ 0 ∷ 0 ∷ big_bytes 4 a ++ big_bytes 4 b ++ big_bytes 4 c

-- the number of an arc or a node, and a length; or the ends of an arc and its length
abbrev pub command_bytes : ℕ → Command → List ℕ
command_bytes more (Set k w) = record_with 1 more k w 0
command_bytes more (Close k) = record_with 2 more k 0 0
command_bytes more (Reopen k) = record_with 3 more k 0 0
command_bytes more (Mark x) = record_with 4 more x 0 0
command_bytes more (Unmark x) = record_with 5 more x 0 0
command_bytes more (Lay t h w) = record_with 6 more t h w

-- 1 where the group goes on in the next record
abbrev pub more_byte : Bool → ℕ
more_byte goes_on = if goes_on then 1 else 0

abbrev pub record_bytes : Record → List ℕ
record_bytes r = command_bytes (more_byte r.goes_on) r.command

-- The numbers fit their places. Whether the command is admitted is not asked here. Format 1 has no `lay`.
abbrev pub FitsRecord : Format → Command → Type 0
FitsRecord f (Set k w) = (k < 2 ^ 32) × (w < 2 ^ 32)
FitsRecord f (Close k) = k < 2 ^ 32
FitsRecord f (Reopen k) = k < 2 ^ 32
FitsRecord f (Mark x) = x < 2 ^ 32
FitsRecord f (Unmark x) = x < 2 ^ 32
FitsRecord f (Lay t h w) = InTwo f × (t < 2 ^ 32) × (h < 2 ^ 32) × (w < 2 ^ 32)

-- In format 1 each command is a group of its own.
abbrev pub MayGoOn : Format → Bool → Type 0
MayGoOn f true = InTwo f
MayGoOn f false = Unit {0}

pub record IsRecord (f : Format) (r : Record) : Type 0 where
  pub command : FitsRecord f r.command
  pub more : MayGoOn f r.goes_on

-- the 16 bytes spell the record
pub record SpelledRecord (f : Format) (bytes : List ℕ) (r : Record) : Type 0 where
  pub fits : IsRecord f r
  pub spelled : bytes ≡ record_bytes r

-- ---- a journal page

-- bytes 0 to 31: sequence, number of the first group, count of the records, zeros
abbrev pub front_bytes : ℕ → ℕ → ℕ → List ℕ
front_bytes sequence first_number count = big_bytes 8 sequence ++ big_bytes 8 first_number ++ big_bytes 2 count ++ zeros 14

-- then the records
abbrev pub records_page : ℕ → ℕ → List Record → List ℕ
records_page sequence first_number records = page_of (front_bytes sequence first_number (length records) ++ flat_map record_bytes records)

abbrev pub entry_page : Entry → List ℕ
entry_page e = records_page e.sequence e.first_number (records_in e.groups)

-- so many records, each of which fits
pub record AreRecords (f : Format) (records : List Record) : Type 0 where
  pub some : 1 ≤ length records
  pub few : length records ≤ most_commands
  pub each : AllByRecursion (IsRecord f) records

-- the page holds whole groups, none of them empty
pub record IsEntry (f : Format) (e : Entry) : Type 0 where
  pub sequence_fits : e.sequence < 2 ^ 64
  pub number_fits : e.first_number < 2 ^ 64
  pub groups : AllByRecursion (λ group. 1 ≤ length group) e.groups
  pub records : AreRecords f (records_in e.groups)

-- whatever the gate
pub record SpelledEntry (f : Format) (page : List ℕ) (e : Entry) : Type 0 where
  pub fits : IsEntry f e
  pub spelled : body page ≡ body (entry_page e)

-- ---- a page that is being written

-- a page whose bytes from there on are zero
pub record IsBlankFrom (used : ℕ) (page : List ℕ) : Type 0 where
  pub within : used ≤ 4096
  pub size : length page ≡ 4096
  pub blank : drop used page ≡ zeros (4096 - used)
