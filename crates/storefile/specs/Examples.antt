-- Worked files: of a network of six nodes and eight arcs.
use Rattle.std.specs.Prelude.{ℕ, ◌+◌, List, [], ◌∷◌, ◌++◌, length, replicate, Option, Some, None, Result, Ok, Err, true}
use Rattle.disk.specs.Gated.{open_byte}
use Rattle.roadnet.specs.declared.refusals.Refusal.{Refusal}
use Rattle.roadnet.specs.Net.{Net}
use Rattle.pages.specs.declared.content.Ends.{Ends}
use Rattle.pages.specs.declared.content.Word.{Word}
use Rattle.pages.specs.declared.content.Slot.{Slot}
use Rattle.pages.specs.Contents.{Head}
use Rattle.pages.specs.Spelling.{body, header_page, arc_page, word_page, head_page}
use Rattle.pages.specs.Vectors.{six, old_six}
use Rattle.pages.specs.declared.content.Format.TheVariants.{One, Two}
use Rattle.pages.specs.Limits.{page_size}
use Rattle.storefile.specs.StoreFile.{Stored, groups_of}

abbrev pub arc : ℕ → ℕ → Ends
arc tail head = record { tail = tail; head = head }

abbrev pub open_word : ℕ → Word
open_word length = record { length = length; opened = true }

-- the page with an open gate
abbrev pub opened_page : List ℕ → List ℕ
opened_page page = body page ++ open_byte ∷ []

abbrev pub blank_page : List ℕ
blank_page = replicate page_size 0

abbrev pub file_of_pages : List (List ℕ) → List ℕ
file_of_pages [] = []
file_of_pages (page ∷ pages) = page ++ file_of_pages pages

abbrev pub new_head : Head
new_head = record { epoch = 1; version = 0; next_sequence = 0; arcs = 8; landmarks = [] }

abbrev pub six_ends : List Ends
six_ends = arc 1 2 ∷ arc 1 3 ∷ arc 2 4 ∷ arc 3 5 ∷ arc 4 3 ∷ arc 4 6 ∷ arc 5 2 ∷ arc 5 6 ∷ []

abbrev pub six_words : List Word
six_words = open_word 17 ∷ open_word 10 ∷ open_word 2 ∷ open_word 0 ∷ open_word 0 ∷ open_word 3 ∷ open_word 0 ∷ open_word 20 ∷ []

-- the store of the six nodes after its creation, with room for its arcs alone, with this header, this head of slot B and these journal pages
abbrev pub six_file : List ℕ → List ℕ → List (List ℕ) → List ℕ
six_file header slot_b journal = file_of_pages (header ∷ arc_page six_ends ∷ opened_page (head_page Two new_head) ∷ word_page six_words ∷ slot_b ∷ blank_page ∷ journal)

-- with 64 journal pages, the first of which is this
abbrev pub sixty_four : List ℕ → List ℕ
sixty_four first = six_file (opened_page (header_page (six 8 64))) blank_page (first ∷ replicate 63 blank_page)

abbrev pub created : List ℕ
created = sixty_four blank_page

-- with room for ten, slot A of this head, words and ends, and with this first page of 64
abbrev pub roomy : List ℕ → List ℕ → List ℕ → List ℕ → List ℕ
roomy head words ends first =
    file_of_pages (opened_page (header_page (six 10 64)) ∷ arc_page six_ends ∷ opened_page head ∷ words ∷ ends ∷ blank_page ∷ blank_page ∷ blank_page ∷ first ∷ replicate 63 blank_page)

-- nine arcs, the last of which was laid
abbrev pub nine_head : Head
nine_head = record { epoch = 1; version = 1; next_sequence = 1; arcs = 9; landmarks = [] }

-- the same store in format 1, with this first journal page
abbrev pub old_file : List ℕ → List ℕ
old_file first = file_of_pages (opened_page (header_page (old_six 64)) ∷ arc_page six_ends ∷ opened_page (head_page One new_head) ∷ word_page six_words ∷ blank_page ∷ blank_page ∷ first ∷ replicate 63 blank_page)

-- the slot, its epoch, the version, the number of arcs and that of unchecked pages
abbrev pub standing : Result (Stored × Net) Refusal → Option (Slot × ℕ × ℕ × ℕ × ℕ)
standing (Err refusal) = None
standing (Ok x) = Some (x.0.slot, x.0.epoch, x.0.version + length (groups_of x.0), length x.1.arcs, length x.0.unchecked)
