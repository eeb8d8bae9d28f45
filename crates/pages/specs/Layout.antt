-- Which page of a store file holds what.
use Rattle.std.specs.Prelude.{ℕ, ◌+◌, ◌-◌, ◌*◌, ◌/◌, ◌%◌, ◌<◌, min}
use Rattle.pages.specs.declared.header.Header.{Header}
use Rattle.pages.specs.declared.content.Slot.{Slot}
use Rattle.pages.specs.declared.content.Slot.TheVariants.{A, B}

-- the least number of pages that hold so many items, with so many places a page
abbrev pub pages_for : ℕ → ℕ → ℕ
pages_for places items = (items + (places - 1)) / places

-- how many places of the page of this number, counted from 0, are in use
abbrev pub places_in_use : ℕ → ℕ → ℕ → ℕ
places_in_use places i items = min places (items - places * i)

-- the arcs that the store was made with
abbrev pub arc_pages : Header → ℕ
arc_pages h = pages_for 511 h.arcs

-- in each slot: the words of all arcs for which there is room, and the ends of those laid after the store was made
abbrev pub word_pages : Header → ℕ
word_pages h = pages_for 1023 h.room

abbrev pub end_pages : Header → ℕ
end_pages h = pages_for 511 (h.room - h.arcs)

-- the pages behind a slot's head
abbrev pub slot_pages : Header → ℕ
slot_pages h = word_pages h + end_pages h

abbrev pub other : Slot → Slot
other A = B
other B = A

-- the pages of a store file: the header, the arc pages, the word pages and the end pages of a slot by their numbers from 0, the head of a
-- slot, the journal's pages by their places from 0
pub data Part : Type 0 where
  Front : Part
  Arcs : (i : ℕ) → Part
  HeadOf : (slot : Slot) → Part
  Words : (slot : Slot) (i : ℕ) → Part
  EndsOf : (slot : Slot) (i : ℕ) → Part
  Journal : (place : ℕ) → Part

-- the parts that a file of this header has
abbrev pub IsPart : Header → Part → Type 0
IsPart h Front = Unit {0}
IsPart h (Arcs i) = i < arc_pages h
IsPart h (HeadOf slot) = Unit {0}
IsPart h (Words slot i) = i < word_pages h
IsPart h (EndsOf slot i) = i < end_pages h
IsPart h (Journal place) = place < h.journal_pages

-- where the head of a slot and the journal stand
abbrev pub head_page_at : Header → Slot → ℕ
head_page_at h A = arc_pages h + 1
head_page_at h B = arc_pages h + slot_pages h + 2

abbrev pub journal_start : Header → ℕ
journal_start h = arc_pages h + 2 * slot_pages h + 3

-- the number of the page that holds a part
abbrev pub page_number : Header → Part → ℕ
page_number h Front = 0
page_number h (Arcs i) = 1 + i
page_number h (HeadOf slot) = head_page_at h slot
page_number h (Words slot i) = head_page_at h slot + 1 + i
page_number h (EndsOf slot i) = head_page_at h slot + 1 + word_pages h + i
page_number h (Journal place) = journal_start h + place

-- how many pages the file has
abbrev pub page_count : Header → ℕ
page_count h = journal_start h + h.journal_pages

-- the journal's place of the page of a sequence
abbrev pub journal_place_of : Header → ℕ → ℕ
journal_place_of h sequence = sequence % h.journal_pages
