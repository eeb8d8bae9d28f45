-- A slot that is written, while the rest of the file stays.
use Rattle.std.specs.Prelude.{◌≡◌, ◌⊎◌, ℕ, ◌+◌, ◌-◌, ◌*◌, ◌<◌, nat_lt, if◌then◌else◌, Bool, true, false, List, length, drop, map, IsTrue}
use Rattle.disk.specs.Gated.{SameOutside, IsShut}
use Rattle.roadnet.specs.Net.{Net}
use Rattle.pages.specs.declared.header.Header.{Header}
use Rattle.pages.specs.declared.content.Slot.{Slot}
use Rattle.pages.specs.Contents.{Head}
use Rattle.pages.specs.Spelling.{body, arc_page, word_page, head_page, ends_of, word_of}
use Rattle.pages.specs.Layout.{HeadOf, word_pages, slot_pages, page_number}
use Rattle.pages.specs.Limits.{page_size, gate_at}
use Rattle.storefile.specs.StoreFile.{page, part, is_open}

-- A checkpoint that is being written: its slot, the epoch, version and next sequence of its head, and how many of the pages behind its head
-- are written.
pub record Draft : Type 0 where
  pub slot : Slot
  pub epoch : ℕ
  pub version : ℕ
  pub next_sequence : ℕ
  pub written : ℕ

-- its head, with the number of arcs and the landmarks of its network
abbrev pub draft_head_of : Draft → Net → Head
draft_head_of d net = record { epoch = d.epoch; version = d.version; next_sequence = d.next_sequence; arcs = length net.arcs; landmarks = net.landmarks }

-- ---- the pages of a slot

-- where they begin, how many bytes they have, and where the slot's gate is
abbrev pub slot_at : Header → Slot → ℕ
slot_at h slot = page_size * page_number h (HeadOf slot)

abbrev pub slot_size : Header → ℕ
slot_size h = page_size * (slot_pages h + 1)

abbrev pub slot_gate : Header → Slot → ℕ
slot_gate h slot = slot_at h slot + gate_at

-- the i-th word page of a network
abbrev pub words_page : Net → ℕ → List ℕ
words_page net i = word_page (map word_of (part 1023 i net.arcs))

-- its i-th end page, with the ends of arcs laid after the store was made
abbrev pub ends_page : Header → Net → ℕ → List ℕ
ends_page h net i = arc_page (map ends_of (part 511 i (drop h.arcs net.arcs)))

-- the i-th page behind a slot's head: the word pages, and then the end pages
abbrev pub slot_page : Header → Net → ℕ → List ℕ
slot_page h net i = if nat_lt i (word_pages h) then words_page net i else ends_page h net (i - word_pages h)

abbrev pub slot_page_at : Header → Slot → ℕ → ℕ
slot_page_at h slot i = page_number h (HeadOf slot) + 1 + i

-- its first byte in the file
abbrev pub slot_byte_at : Header → Slot → ℕ → ℕ
slot_byte_at h slot i = page_size * slot_page_at h slot i

-- the first pages behind this slot's head, so many, are those of the network
abbrev pub HoldsPages : (ℕ → List ℕ) → Header → Slot → Net → ℕ → Type 0
HoldsPages pages h slot net count = (i : ℕ) → i < count → pages (slot_page_at h slot i) ≡ slot_page h net i

-- ---- what a stop leaves

-- c is old but for the slot's gate, which is closed
abbrev pub IsGateShut : Header → Slot → List ℕ → List ℕ → Type 0
IsGateShut h slot old c = IsShut (slot_gate h slot) 1 (slot_gate h slot) old c

-- c is old outside the pages of this slot, and the slot's gate is closed in it
abbrev pub IsSlotShut : Header → Slot → List ℕ → List ℕ → Type 0
IsSlotShut h slot old c = IsShut (slot_at h slot) (slot_size h) (slot_gate h slot) old c

-- a stop leaves the content but for the pages of this slot, whose gate is closed
abbrev pub LeavesSlotShut : Header → Slot → List ℕ → (List ℕ → Type 0) → Type 0
LeavesSlotShut h slot content left = (c : List ℕ) → left c → IsSlotShut h slot content c

-- c is old outside the pages of this slot, and these are whole: the gate is open, and they spell this head, the network's words and the ends of
-- its arcs
pub record IsSlotWhole (h : Header) (slot : Slot) (head : Head) (net : Net) (old c : List ℕ) : Type 0 where
  pub outside : SameOutside (slot_at h slot) (slot_size h) old c
  pub opened : IsTrue (is_open (page c (page_number h (HeadOf slot))))
  pub head_is : body (page c (page_number h (HeadOf slot))) ≡ body (head_page h.format head)
  pub pages : HoldsPages (page c) h slot net (slot_pages h)

-- What a stop leaves of a closed slot that is finished: the slot is still closed, or it is whole.
abbrev pub IsSlotShutOrWhole : Header → Slot → Head → Net → List ℕ → List ℕ → Type 0
IsSlotShutOrWhole h slot head net old c = IsSlotShut h slot old c ⊎ IsSlotWhole h slot head net old c

-- the same of the slot of a checkpoint that is being written, with its head
abbrev pub IsDraftWhole : Header → Draft → Net → List ℕ → List ℕ → Type 0
IsDraftWhole h d net old c = IsSlotWhole h d.slot (draft_head_of d net) net old c

abbrev pub IsDraftShutOrWhole : Header → Draft → Net → List ℕ → List ℕ → Type 0
IsDraftShutOrWhole h d net old c = IsSlotShutOrWhole h d.slot (draft_head_of d net) net old c

-- this holds while the slot is not whole, and this once it is
abbrev pub WhileGoing : Type 0 → Bool → Type 0
WhileGoing P whole = whole ≡ false → P

abbrev pub OnceWhole : Type 0 → Bool → Type 0
OnceWhole P whole = whole ≡ true → P
