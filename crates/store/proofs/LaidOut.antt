-- The pages of a new store.
use Rattle.std.proofs.Common.{◌≡◌, ℕ, ◌+◌, ◌*◌, ◌<◌, ◌≤◌, List, [], ◌++◌, length, drop, map, refl, ◌∙◌, ap, arith, length-take, replicate}
use Rattle.std.proofs.lemmas.List.{length-map}
use Rattle.std.specs.List.{flat_map}
use Rattle.roadnet.specs.declared.arcs.RoadArc.{RoadArc}
use Rattle.roadnet.specs.Net.{Net}
use Rattle.pages.specs.declared.header.Header.{Header}
use Rattle.pages.specs.declared.content.Slot.TheVariants.{A, B}
use Rattle.pages.specs.declared.content.Format.TheVariants.{Two}
use Rattle.pages.specs.Spelling.{zeros, page_of, header_fields, header_page, head_fields, head_page, ends_bytes, ends_of, bytes_of_word, word_of}
use Rattle.pages.specs.Layout.{Part, Front, Arcs, HeadOf, Words, EndsOf, Journal, IsPart, arc_pages, word_pages, end_pages, slot_pages, page_number, page_count}
use Rattle.pages.proofs.Items.{length-items}
use Rattle.pages.proofs.Heads.{length-fields}
use Rattle.storefile.specs.StoreFile.{page, part}
use Rattle.storefile.proofs.Meaning.{length-page_of}
use Rattle.store.specs.Created.{first_head, blank_page, page_of_arcs, page_of_words, new_page, IsLaidOut, first_pages}
use Rattle.store.proofs.Appended.{five_size, page_zero, page_second, page_third, page_fourth, page_fifth}

pub length-part : (places i : ℕ) (arcs : List RoadArc) → length (part places i arcs) ≤ places
length-part places i arcs = omega (arith, length-take places (drop (places * i) arcs))

pub arcs_size : (net : Net) (i : ℕ) → length (page_of_arcs net i) ≡ 4096
arcs_size net i = length-page_of (flat_map ends_bytes (map ends_of (part 511 i net.arcs)))
    (omega (arith, length-part 511 i net.arcs, length-items ends_bytes 8 (λ x. refl) (map ends_of (part 511 i net.arcs)), length-map (part 511 i net.arcs) ends_of))

pub words_size : (net : Net) (i : ℕ) → length (page_of_words net i) ≡ 4096
words_size net i = length-page_of (flat_map bytes_of_word (map word_of (part 1023 i net.arcs)))
    (omega (arith, length-part 1023 i net.arcs, length-items bytes_of_word 4 (λ x. refl) (map word_of (part 1023 i net.arcs)), length-map (part 1023 i net.arcs) word_of))

pub header_size : (h : Header) → length (header_page h) ≡ 4096
header_size h = length-page_of (header_fields h) (omega arith)

pub head_size : (net : Net) (v : ℕ) → length net.landmarks ≤ 1000 → length (head_page Two (first_head net v)) ≡ 4096
head_size net v few = length-page_of (head_fields Two (first_head net v)) (omega (arith, length-fields Two (first_head net v) few))

pub blank_size : length blank_page ≡ 4096
blank_size = length-page_of [] (omega arith)

abbrev pub blanks : ℕ → List ℕ
blanks k = blank_page

-- the file as it is written
abbrev pub written_file : Header → Net → ℕ → List ℕ
written_file h net v = ((((header_page h ++ first_pages (page_of_arcs net) (arc_pages h)) ++ head_page Two (first_head net v)) ++ first_pages (page_of_words net) (word_pages h)) ++ first_pages blanks (end_pages h + 1 + slot_pages h + h.journal_pages))

module _ (h : Header) (net : Net) (v : ℕ) (few : length net.landmarks ≤ 1000) where
  abbrev rest : ℕ
  rest = end_pages h + 1 + slot_pages h + h.journal_pages

  size : length (written_file h net v) ≡ 4096 * page_count h
  size = omega (arith, five_size (header_page h) (head_page Two (first_head net v)) (page_of_arcs net) (page_of_words net) blanks (arc_pages h) (word_pages h) rest (header_size h) (head_size net v few) (λ k lt. arcs_size net k) (λ k lt. words_size net k) (λ k lt. blank_size))

  behind : (k i : ℕ) → i < rest → k ≡ arc_pages h + word_pages h + 2 + i → page (written_file h net v) k ≡ blank_page
  behind k i lt is = page_fifth (header_page h) (head_page Two (first_head net v)) (page_of_arcs net) (page_of_words net) blanks (arc_pages h) (word_pages h) rest (header_size h) (head_size net v few) (λ k lt. arcs_size net k) (λ k lt. words_size net k) (λ k lt. blank_size) k i lt is

  each : (part : Part) → IsPart h part → page (written_file h net v) (page_number h part) ≡ new_page h net v part
  each Front is = page_zero (header_page h) (head_page Two (first_head net v)) (page_of_arcs net) (page_of_words net) blanks (arc_pages h) (word_pages h) rest (header_size h) (head_size net v few) (λ k lt. arcs_size net k) (λ k lt. words_size net k) (λ k lt. blank_size)
  each (Arcs i) is = page_second (header_page h) (head_page Two (first_head net v)) (page_of_arcs net) (page_of_words net) blanks (arc_pages h) (word_pages h) rest (header_size h) (head_size net v few) (λ k lt. arcs_size net k) (λ k lt. words_size net k) (λ k lt. blank_size) i is
  each (HeadOf A) is = page_third (header_page h) (head_page Two (first_head net v)) (page_of_arcs net) (page_of_words net) blanks (arc_pages h) (word_pages h) rest (header_size h) (head_size net v few) (λ k lt. arcs_size net k) (λ k lt. words_size net k) (λ k lt. blank_size) (page_number h (HeadOf A)) refl
  each (EndsOf A i) is = behind (page_number h (EndsOf A i)) i (omega (arith, is)) (omega arith)
  each (HeadOf B) is = behind (page_number h (HeadOf B)) (end_pages h) (omega arith) (omega arith)
  each (Words A i) is = page_fourth (header_page h) (head_page Two (first_head net v)) (page_of_arcs net) (page_of_words net) blanks (arc_pages h) (word_pages h) rest (header_size h) (head_size net v few) (λ k lt. arcs_size net k) (λ k lt. words_size net k) (λ k lt. blank_size) (page_number h (Words A i)) i is (omega arith)
  each (Words B i) is = behind (page_number h (Words B i)) (end_pages h + 1 + i) (omega (arith, is)) (omega arith)
  each (EndsOf B i) is = behind (page_number h (EndsOf B i)) (end_pages h + 1 + word_pages h + i) (omega (arith, is)) (omega arith)
  each (Journal place) is = behind (page_number h (Journal place)) (end_pages h + 1 + slot_pages h + place) (omega (arith, is)) (omega arith)

  pub laid_out : IsLaidOut (written_file h net v) h net v
  laid_out = record { size = size; each = each }

-- a page of zeros, as it is written
pub zeros_page : replicate 4096 0 ≡ blank_page
unfolding page_of zeros
zeros_page = refl

-- the file, piece by piece
pub written_is : (h : Header) (net : Net) (v : ℕ) (s0 s1 s2 s3 s4 s5 hp hd : List ℕ) (n : ℕ) → s0 ≡ [] → s1 ≡ s0 ++ hp → hp ≡ header_page h → s2 ≡ s1 ++ first_pages (page_of_arcs net) (arc_pages h) → s3 ≡ s2 ++ hd → hd ≡ head_page Two (first_head net v)
    → s4 ≡ s3 ++ first_pages (page_of_words net) (word_pages h) → s5 ≡ s4 ++ first_pages blanks n → n ≡ end_pages h + 1 + slot_pages h + h.journal_pages → s5 ≡ written_file h net v
written_is h net v s0 s1 s2 s3 s4 s5 hp hd n e0 e1 is_hp e2 e3 is_hd e4 e5 is_n =
    let one : s1 ≡ header_page h = e1 ∙ ap (λ (xs : List ℕ). xs ++ hp) e0 ∙ is_hp in
    let two = e2 ∙ ap (λ (xs : List ℕ). xs ++ first_pages (page_of_arcs net) (arc_pages h)) one in
    let three = e3 ∙ ap (λ (xs : List ℕ). xs ++ hd) two ∙ ap (λ (xs : List ℕ). (header_page h ++ first_pages (page_of_arcs net) (arc_pages h)) ++ xs) is_hd in
    let four = e4 ∙ ap (λ (xs : List ℕ). xs ++ first_pages (page_of_words net) (word_pages h)) three in
    e5 ∙ ap (λ (xs : List ℕ). xs ++ first_pages blanks n) four
    ∙ ap (λ (k : ℕ). (((header_page h ++ first_pages (page_of_arcs net) (arc_pages h)) ++ head_page Two (first_head net v)) ++ first_pages (page_of_words net) (word_pages h)) ++ first_pages blanks k) is_n
