-- Worked pages: of a network of six nodes and eight arcs.
use Rattle.std.specs.Prelude.{◌≡◌, ℕ, ◌*◌, true, false, [], ◌∷◌, ◌++◌, map, replicate}
use Rattle.roadnet.specs.declared.commands.Command.{Command}
use Rattle.roadnet.specs.declared.commands.Command.TheVariants.{Set, Close, Reopen, Mark, Unmark, Lay}
use Rattle.pages.specs.declared.header.Header.{Header}
use Rattle.pages.specs.declared.content.Format.TheVariants.{One, Two}
use Rattle.pages.specs.declared.content.Record.{Record}
use Rattle.pages.specs.declared.content.Slot.TheVariants.{A, B}
use Rattle.pages.specs.Spelling.{page_of, header_fields, header_page, bytes_of_word, ends_bytes, head_fields, entry_page, record_bytes}
use Rattle.pages.specs.Grouping.{records_in, grouped}
use Rattle.pages.specs.Layout.{HeadOf, EndsOf, Journal, page_number, page_count}

-- the sizes of six nodes and eight arcs, with room for so many, in format 2
abbrev pub six : ℕ → ℕ → Header
six room journal_pages = record { format = Two; nodes = 6; arcs = 8; room = room; journal_pages = journal_pages }

-- the same in format 1
abbrev pub old_six : ℕ → Header
old_six journal_pages = record { format = One; nodes = 6; arcs = 8; room = 8; journal_pages = journal_pages }

-- a record of a group that ends with it
abbrev pub lone_record : Command → Record
lone_record command = record { command = command; goes_on = false }

pub record LayoutExamples : Type 0 where
  pub slot_a : page_number (six 8 64) (HeadOf A) ≡ 2
  pub slot_b : page_number (six 8 64) (HeadOf B) ≡ 4
  pub journal : page_number (six 8 64) (Journal 0) ≡ 6
  pub pages : page_count (six 8 64) ≡ 70
  pub bytes : 4096 * page_count (six 8 64) ≡ 286720
  pub pages_of_two : page_count (six 8 2) ≡ 8
  pub bytes_of_two : 4096 * page_count (six 8 2) ≡ 32768
  -- with room for ten
  pub roomy_slot_a : page_number (six 10 64) (HeadOf A) ≡ 2
  pub roomy_ends_a : page_number (six 10 64) (EndsOf A 0) ≡ 4
  pub roomy_slot_b : page_number (six 10 64) (HeadOf B) ≡ 5
  pub roomy_ends_b : page_number (six 10 64) (EndsOf B 0) ≡ 7
  pub roomy_journal : page_number (six 10 64) (Journal 0) ≡ 8
  pub roomy_pages : page_count (six 10 64) ≡ 72
  -- in format 1
  pub old_slot_b : page_number (old_six 64) (HeadOf B) ≡ 4
  pub old_journal : page_number (old_six 64) (Journal 0) ≡ 6
  pub old_pages : page_count (old_six 64) ≡ 70

pub record PageExamples : Type 0 where
  pub header : header_fields (six 8 64) ≡ 0x52 ∷ 0x4f ∷ 0x41 ∷ 0x44 ∷ 0x4d ∷ 0x52 ∷ 0x4b ∷ 0x31 ∷ 0 ∷ 0 ∷ 0 ∷ 2 ∷ 0 ∷ 0 ∷ 0 ∷ 6 ∷ 0 ∷ 0 ∷ 0 ∷ 8 ∷ 0 ∷ 0 ∷ 0 ∷ 0x40 ∷ 0 ∷ 0 ∷ 0 ∷ 8 ∷ []
  pub old_header : header_page (old_six 64) ≡ page_of (0x52 ∷ 0x4f ∷ 0x41 ∷ 0x44 ∷ 0x4d ∷ 0x52 ∷ 0x4b ∷ 0x31 ∷ 0 ∷ 0 ∷ 0 ∷ 1 ∷ 0 ∷ 0 ∷ 0 ∷ 6 ∷ 0 ∷ 0 ∷ 0 ∷ 8 ∷ 0 ∷ 0 ∷ 0 ∷ 0x40 ∷ [])
  pub ends : ends_bytes (record { tail = 5; head = 6 }) ≡ 0 ∷ 0 ∷ 0 ∷ 5 ∷ 0 ∷ 0 ∷ 0 ∷ 6 ∷ []
  pub word : bytes_of_word (record { length = 17; opened = true }) ≡ 0 ∷ 0 ∷ 0 ∷ 0x11 ∷ []
  pub closed : bytes_of_word (record { length = 0; opened = false }) ≡ 0x80 ∷ 0 ∷ 0 ∷ 0 ∷ []
  pub longest_closed : bytes_of_word (record { length = 2147483647; opened = false }) ≡ 0xff ∷ 0xff ∷ 0xff ∷ 0xff ∷ []
  pub head : head_fields Two (record { epoch = 1; version = 0; next_sequence = 0; arcs = 8; landmarks = [] }) ≡ replicate 7 0 ++ 1 ∷ replicate 20 0 ++ 0 ∷ 0 ∷ 0 ∷ 8 ∷ []
  pub old_head : head_fields One (record { epoch = 1; version = 0; next_sequence = 0; arcs = 8; landmarks = [] }) ≡ replicate 7 0 ++ 1 ∷ replicate 20 0
  pub head_with_landmarks : head_fields Two (record { epoch = 1; version = 0; next_sequence = 0; arcs = 8; landmarks = 3 ∷ 6 ∷ [] }) ≡ replicate 7 0 ++ 1 ∷ replicate 16 0 ++ 0 ∷ 0 ∷ 0 ∷ 2 ∷ 0 ∷ 0 ∷ 0 ∷ 8 ∷ 0 ∷ 0 ∷ 0 ∷ 3 ∷ 0 ∷ 0 ∷ 0 ∷ 6 ∷ []
  pub head_after_checkpoint : head_fields Two (record { epoch = 2; version = 1; next_sequence = 1; arcs = 8; landmarks = [] }) ≡ replicate 7 0 ++ 2 ∷ replicate 7 0 ++ 1 ∷ replicate 7 0 ++ 1 ∷ replicate 4 0 ++ 0 ∷ 0 ∷ 0 ∷ 8 ∷ []
  pub entry : entry_page (record { sequence = 0; first_number = 1; groups = (Close 7 ∷ []) ∷ [] }) ≡ page_of (replicate 15 0 ++ 1 ∷ 0 ∷ 1 ∷ replicate 14 0 ++ 2 ∷ 0 ∷ 0 ∷ 0 ∷ 0 ∷ 0 ∷ 0 ∷ 7 ∷ replicate 8 0)
  pub set : record_bytes (lone_record (Set 8 4)) ≡ 1 ∷ 0 ∷ 0 ∷ 0 ∷ 0 ∷ 0 ∷ 0 ∷ 8 ∷ 0 ∷ 0 ∷ 0 ∷ 4 ∷ 0 ∷ 0 ∷ 0 ∷ 0 ∷ []
  pub reopen : record_bytes (lone_record (Reopen 7)) ≡ 3 ∷ 0 ∷ 0 ∷ 0 ∷ 0 ∷ 0 ∷ 0 ∷ 7 ∷ replicate 8 0
  pub mark : record_bytes (lone_record (Mark 3)) ≡ 4 ∷ 0 ∷ 0 ∷ 0 ∷ 0 ∷ 0 ∷ 0 ∷ 3 ∷ replicate 8 0
  pub unmark : record_bytes (lone_record (Unmark 3)) ≡ 5 ∷ 0 ∷ 0 ∷ 0 ∷ 0 ∷ 0 ∷ 0 ∷ 3 ∷ replicate 8 0
  pub lay : record_bytes (lone_record (Lay 6 1 7)) ≡ 6 ∷ 0 ∷ 0 ∷ 0 ∷ 0 ∷ 0 ∷ 0 ∷ 6 ∷ 0 ∷ 0 ∷ 0 ∷ 1 ∷ 0 ∷ 0 ∷ 0 ∷ 7 ∷ []
  -- the page of a group of two, and of the groups of one
  pub group : map record_bytes (records_in ((Close 7 ∷ Set 8 4 ∷ []) ∷ [])) ≡ (2 ∷ 1 ∷ 0 ∷ 0 ∷ 0 ∷ 0 ∷ 0 ∷ 7 ∷ replicate 8 0) ∷ (1 ∷ 0 ∷ 0 ∷ 0 ∷ 0 ∷ 0 ∷ 0 ∷ 8 ∷ 0 ∷ 0 ∷ 0 ∷ 4 ∷ replicate 4 0) ∷ []
  pub group_again : grouped (records_in ((Close 7 ∷ Set 8 4 ∷ []) ∷ (Reopen 7 ∷ []) ∷ [])) ≡ (Close 7 ∷ Set 8 4 ∷ []) ∷ (Reopen 7 ∷ []) ∷ []
