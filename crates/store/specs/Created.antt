-- What the file of a new store holds, and how it is written.
use Rattle.std.specs.Prelude.{◌≡◌, ℕ, Some, zero, suc, ◌+◌, ◌*◌, List, [], ◌∷◌, ◌++◌, length, map}
use Rattle.roadnet.specs.Net.{Net}
use Rattle.pages.specs.declared.header.Header.{Header}
use Rattle.pages.specs.declared.content.Slot.TheVariants.{A, B}
use Rattle.pages.specs.Contents.{Head}
use Rattle.pages.specs.Spelling.{page_of, header_page, arc_page, word_page, head_page, ends_of, word_of}
use Rattle.pages.specs.Layout.{Part, Front, Arcs, HeadOf, Words, EndsOf, Journal, IsPart, arc_pages, word_pages, page_number, page_count}
use Rattle.pages.specs.declared.content.Format.TheVariants.{Two}
use Rattle.pages.specs.Limits.{page_size, gate_at}
use Rattle.storefile.specs.StoreFile.{page, part}
use Rattle.storefile.specs.Standing.{Standing, standing_of}
use Rattle.disk.specs.Contents.{overwritten}
use Rattle.disk.specs.Gated.{open_byte}

-- the format and the sizes of a store that is made for this network, with its room
abbrev pub header_of : Net → ℕ → Header
header_of net journal_pages = record { format = Two; nodes = net.nodes; arcs = length net.arcs; room = net.room; journal_pages = journal_pages }

-- how the file of a new store stands: all arcs are there from the beginning, slot A is current, and page 0 of the journal is written next
abbrev pub new_standing : Net → ℕ → ℕ → Standing
new_standing net version journal_pages =
    record { header = header_of net journal_pages; slot = A; epoch = 1; network = net; version = version; next = 0; unchecked = 0 }

-- the file is that of a new store of this network at this version
abbrev pub IsNewFile : ℕ → Net → ℕ → List ℕ → Type 0
IsNewFile journal_pages net version file = standing_of file ≡ Some (new_standing net version journal_pages)

-- the head of slot A in a new store, whose network has this version
abbrev pub first_head : Net → ℕ → Head
first_head net version = record { epoch = 1; version = version; next_sequence = 0; arcs = length net.arcs; landmarks = net.landmarks }

-- a page of zeros
abbrev pub blank_page : List ℕ
blank_page = page_of []

abbrev pub page_of_arcs : Net → ℕ → List ℕ
page_of_arcs net i = arc_page (map ends_of (part 511 i net.arcs))

abbrev pub page_of_words : Net → ℕ → List ℕ
page_of_words net i = word_page (map word_of (part 1023 i net.arcs))

-- the page of each part of a new store, its gate closed: slot A holds the network at its version, slot B and the journal are blank; all arcs
-- stand in the arc pages, so the end pages are blank too
abbrev pub new_page : Header → Net → ℕ → Part → List ℕ
new_page h net version Front = header_page h
new_page h net version (Arcs i) = page_of_arcs net i
new_page h net version (HeadOf A) = head_page Two (first_head net version)
new_page h net version (HeadOf B) = blank_page
new_page h net version (Words A i) = page_of_words net i
new_page h net version (Words B i) = blank_page
new_page h net version (EndsOf slot i) = blank_page
new_page h net version (Journal place) = blank_page

-- the file has these pages and no others
pub record IsLaidOut (file : List ℕ) (h : Header) (net : Net) (version : ℕ) : Type 0 where
  pub size : length file ≡ page_size * page_count h
  pub each : (part : Part) → IsPart h part → page file (page_number h part) ≡ new_page h net version part

-- the bytes of the first pages, so many, one behind the other
unfoldable pub first_pages : (ℕ → List ℕ) → ℕ → List ℕ
first_pages pages zero = []
first_pages pages (suc n) = first_pages pages n ++ pages n

-- those of the arc pages, of a slot's word pages, and of so many blank ones
abbrev pub arc_bytes : Header → Net → List ℕ
arc_bytes h net = first_pages (page_of_arcs net) (arc_pages h)

abbrev pub word_bytes : Header → Net → List ℕ
word_bytes h net = first_pages (page_of_words net) (word_pages h)

abbrev pub blank_bytes : ℕ → List ℕ
blank_bytes count = first_pages (λ _. blank_page) count

-- the file with the gate of this page open
abbrev pub with_gate : List ℕ → ℕ → List ℕ
with_gate file k = overwritten file (page_size * k + gate_at) (open_byte ∷ [])

-- with those of slot A's head and of the header open
abbrev pub with_both_gates : Header → List ℕ → List ℕ
with_both_gates h file = with_gate (with_gate file (page_number h (HeadOf A))) 0

-- ---- pages that are written one behind the other

-- pages that wait to be written, and the number of the page that comes next
pub record Waiting : Type 0 where
  pub next : ℕ
  pub bytes : List ℕ

-- the file as far as it goes, the pages that wait among it
abbrev pub so_far : List ℕ → Waiting → List ℕ
so_far content waiting = content ++ waiting.bytes

-- these bytes are added to it
abbrev pub Adds : List ℕ → List ℕ → Waiting → List ℕ → Waiting → Type 0
Adds bytes content waiting content' waiting' = so_far content' waiting' ≡ so_far content waiting ++ bytes

-- the next page comes behind all these
abbrev pub IsInStep : List ℕ → Waiting → Type 0
IsInStep content waiting = length content + length waiting.bytes ≡ page_size * waiting.next
