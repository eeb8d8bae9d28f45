-- What is read from a page that spells words, or the ends of arcs.
use Rattle.std.proofs.Common.{◌≡◌, ℕ, ◌+◌, ◌-◌, ◌*◌, ◌^◌, ◌%◌, ◌≤◌, ◌<◌, Bool, true, false, List, [], ◌∷◌, ◌++◌, length, take, drop, map, refl, sym, ap, subst, ◌∙◌, arith}
use Rattle.std.specs.Prelude.{nat_lt, ◌==◌, if◌then◌else◌}
use Rattle.std.specs.List.{flat_map, list_all, AllByRecursion}
use Rattle.std.proofs.lemmas.List.{length-append, length-take, length-drop, length-map, take-append-drop, take_all}
use Rattle.std.proofs.lemmas.Bool.Decides.{nat_tests}
use Rattle.byteorder.specs.Endian.{big_bytes, big_number}
use Rattle.byteorder.specs.Numbers.{big_number-reads_back, big_from-lt}
use Rattle.roadnet.specs.declared.arcs.RoadArc.{RoadArc}
use Rattle.pages.specs.declared.content.Ends.{Ends}
use Rattle.pages.specs.declared.content.Word.{Word}
use Rattle.pages.specs.Spelling.{zeros, page_of, bytes_of_word, word_of, IsWord, SpelledWords, ends_bytes, ends_of, IsEnds, SpelledArcs}
use Rattle.pages.specs.Reading.{read_items, read_word, read_ends, is_ends}
use Rattle.pages.proofs.Padding.{both, whole, rest_passes}
use Rattle.pages.proofs.Records.{IsBytes, IsBytes-drop}
use Rattle.pages.proofs.Four.{four_back}
use Rattle.pages.proofs.Items.{length-items, length-read, items_read, items_fit, items_spelled}

-- there is room for one more word
pub word_room : (page : List ℕ) (arcs : List RoadArc) (i : ℕ) → length arcs ≤ 1023 → i < length arcs → page ≡ flat_map bytes_of_word (map word_of (take i arcs)) → length page + 4 ≤ 4096
word_room page arcs i few lt is = omega (arith, ap length is, length-items bytes_of_word 4 (λ x. refl) (map word_of (take i arcs)), length-map (take i arcs) word_of, length-take i arcs)

-- there is room for one more number
pub number_room : (page : List ℕ) (numbers : List ℕ) (i : ℕ) → length numbers ≤ 1023 → i < length numbers → page ≡ flat_map (big_bytes 4) (take i numbers) → length page + 4 ≤ 4096
number_room page numbers i few lt is = omega (arith, ap length is, length-items (big_bytes 4) 4 (λ x. refl) (take i numbers), length-take i numbers)

-- there is room for the ends of one more arc
pub arc_room : (page : List ℕ) (arcs : List RoadArc) (i : ℕ) → length arcs ≤ 511 → i < length arcs → page ≡ flat_map ends_bytes (map ends_of (take i arcs)) → length page + 8 ≤ 4096
arc_room page arcs i few lt is = omega (arith, ap length is, length-items ends_bytes 8 (λ x. refl) (map ends_of (take i arcs)), length-map (take i arcs) ends_of, length-take i arcs)

pub room_after : (page new bytes : List ℕ) → new ≡ page ++ bytes → length bytes ≡ 4 → length page + 8 ≤ 4096 → length new + 4 ≤ 4096
room_after page new bytes is len room = omega (arith, ap length is, length-append page bytes)

from_number : (n len : ℕ) (opened : Bool) → n % 2 ^ 31 ≡ len → nat_lt n (2 ^ 31) ≡ opened → ◌≡◌ {A = Word} (record { length = n % 2 ^ 31; opened = nat_lt n (2 ^ 31) }) (record { length = len; opened = opened })
from_number n len opened p q = rw (p, q) refl

abbrev word_of_number : ℕ → Word
word_of_number n = record { length = n % 2 ^ 31; opened = nat_lt n (2 ^ 31) }

number_back : (len : ℕ) (opened : Bool) → len < 2 ^ 31 → read_word (bytes_of_word (record { length = len; opened = opened })) ≡ record { length = len; opened = opened }
number_back len true lt =
    ap word_of_number (big_number-reads_back 4 (len + 0) [] (omega arith))
    ∙ from_number (len + 0) len true (omega arith) (grind (arith, nat_tests))
number_back len false lt =
    ap word_of_number (big_number-reads_back 4 (len + 2 ^ 31) [] (omega arith))
    ∙ from_number (len + 2 ^ 31) len false (omega arith) (grind (arith, nat_tests))

word_back : (w : Word) → IsWord w → read_word (bytes_of_word w) ≡ w
word_back w fits = number_back w.length w.opened fits

pub words_fit : (n : ℕ) (bytes : List ℕ) → IsBytes bytes → AllByRecursion IsWord (read_items read_word 4 n bytes)
words_fit n bytes is = items_fit IsWord read_word 4 (λ bytes is. omega arith) n bytes is

pub words_read : (count : ℕ) (page : List ℕ) (words : List Word) → SpelledWords count page words → read_items read_word 4 count page ≡ words
unfolding page_of
words_read count page words spells =
    ap (λ (n : ℕ). read_items read_word 4 n page) (sym spells.count_is) ∙ ap (read_items read_word 4 (length words)) spells.spelled
    ∙ items_read IsWord read_word bytes_of_word 4 (λ x. refl) word_back words (zeros (4096 - length (flat_map bytes_of_word words))) spells.fits

-- ---- tests of each end

pub all_pass : {X : Type 0} (test : X → Bool) (P : X → Type 0) (each : (x : X) → test x ≡ true → P x) (xs : List X) → list_all test xs ≡ true → AllByRecursion P xs
all_pass test P each [] e = tt
all_pass test P each (x ∷ xs) e = let b = both (test x) (list_all test xs) e in (each x b.0, all_pass test P each xs b.1)

pub pass_all : {X : Type 0} (test : X → Bool) (P : X → Type 0) (each : (x : X) → P x → test x ≡ true) (xs : List X) → AllByRecursion P xs → list_all test xs ≡ true
pass_all test P each [] h = refl
pass_all test P each (x ∷ xs) h = rw (each x h.0) (pass_all test P each xs h.1)

ends_from : (nodes : ℕ) (e : Ends) → is_ends nodes e ≡ true → IsEnds nodes e
ends_from nodes e h = record { tail_from = grind (arith, nat_tests); tail_to = grind (arith, nat_tests); head_from = grind (arith, nat_tests); head_to = grind (arith, nat_tests) }

ends_to : (nodes : ℕ) (e : Ends) → IsEnds nodes e → is_ends nodes e ≡ true
ends_to nodes e h = grind (arith, nat_tests)

pub are_ends : (nodes : ℕ) (arcs : List Ends) → list_all (is_ends nodes) arcs ≡ true → AllByRecursion (IsEnds nodes) arcs
are_ends nodes arcs e = all_pass (is_ends nodes) (IsEnds nodes) (ends_from nodes) arcs e

pub ends_are : (nodes : ℕ) (arcs : List Ends) → AllByRecursion (IsEnds nodes) arcs → list_all (is_ends nodes) arcs ≡ true
ends_are nodes arcs h = pass_all (is_ends nodes) (IsEnds nodes) (ends_to nodes) arcs h

same_ends : (e : Ends) (t h : ℕ) → t ≡ e.tail → h ≡ e.head → record { tail = t; head = h } ≡ e
same_ends e t h p q = rw (p, q) refl

-- ends that fit their places
abbrev pub AreNumbers : Ends → Type 0
AreNumbers e = (e.tail < 2 ^ 32) × (e.head < 2 ^ 32)

ends_back : (e : Ends) → AreNumbers e → read_ends (ends_bytes e) ≡ e
ends_back e fits = same_ends e _ _ (big_number-reads_back 4 e.tail (big_bytes 4 e.head) fits.0) (big_number-reads_back 4 e.head [] fits.1)

are_numbers : (nodes : ℕ) (arcs : List Ends) → nodes < 2 ^ 32 → AllByRecursion (IsEnds nodes) arcs → AllByRecursion AreNumbers arcs
are_numbers nodes [] lt fits = tt
are_numbers nodes (e ∷ arcs) lt fits = ((omega (arith, fits.0.tail_to), omega (arith, fits.0.head_to)), are_numbers nodes arcs lt fits.1)

pub arcs_read : (nodes count : ℕ) (page : List ℕ) (arcs : List Ends) → nodes < 2 ^ 32 → SpelledArcs nodes count page arcs → read_items read_ends 8 count page ≡ arcs
unfolding page_of
arcs_read nodes count page arcs lt spells =
    ap (λ (n : ℕ). read_items read_ends 8 n page) (sym spells.count_is) ∙ ap (read_items read_ends 8 (length arcs)) spells.spelled
    ∙ items_read AreNumbers read_ends ends_bytes 8 (λ x. refl) ends_back arcs (zeros (4096 - length (flat_map ends_bytes arcs))) (are_numbers nodes arcs lt spells.fits)

-- ---- what is read has that spelling

number_again : (n : ℕ) → n < 2 ^ 32 → n % 2 ^ 31 + (if nat_lt n (2 ^ 31) then 0 else 2 ^ 31) ≡ n
number_again n lt = grind (arith, nat_tests)

word_again : (bytes : List ℕ) → IsBytes bytes → length bytes ≡ 4 → bytes_of_word (read_word bytes) ≡ bytes
word_again bytes is len =
    ap (big_bytes 4) (number_again (big_number 4 bytes) (big_from-lt 0 4 bytes is)) ∙ four_back bytes is (omega arith) ∙ take_all 4 bytes (omega arith)

ends_again : (bytes : List ℕ) → IsBytes bytes → length bytes ≡ 8 → ends_bytes (read_ends bytes) ≡ bytes
ends_again bytes is len =
    ap (λ (xs : List ℕ). xs ++ big_bytes 4 (big_number 4 (drop 4 bytes))) (four_back bytes is (omega arith))
    ∙ ap (λ (xs : List ℕ). take 4 bytes ++ xs) (four_back (drop 4 bytes) (IsBytes-drop 4 bytes is) (omega (arith, length-drop 4 bytes)) ∙ take_all 4 (drop 4 bytes) (omega (arith, length-drop 4 bytes)))
    ∙ take-append-drop 4 bytes

pub words_spelled : (count : ℕ) (page : List ℕ) (words : List Word) → IsBytes page → length page ≡ 4096 → count ≤ 1023 → list_all (λ byte. byte == 0) (drop (4 * count) page) ≡ true
    → words ≡ read_items read_word 4 count page → SpelledWords count page words
words_spelled count page words is size few zeros is_read =
    record {
      count_is = ap length is_read ∙ length-read read_word 4 count page;
      fits = subst (AllByRecursion IsWord) (sym is_read) (words_fit count page is);
      spelled = whole (4 * count) page (flat_map bytes_of_word words) size (omega arith) (ap (flat_map bytes_of_word) is_read ∙ items_spelled read_word bytes_of_word 4 word_again count page is (omega arith)) zeros;
    }

pub arcs_spelled : (nodes count : ℕ) (page : List ℕ) (arcs : List Ends) → IsBytes page → length page ≡ 4096 → count ≤ 511 → list_all (λ byte. byte == 0) (drop (8 * count) page) ≡ true
    → arcs ≡ read_items read_ends 8 count page → list_all (is_ends nodes) arcs ≡ true → SpelledArcs nodes count page arcs
arcs_spelled nodes count page arcs is size few zeros is_read pass =
    record {
      count_is = ap length is_read ∙ length-read read_ends 8 count page;
      fits = are_ends nodes arcs pass;
      spelled = whole (8 * count) page (flat_map ends_bytes arcs) size (omega arith) (ap (flat_map ends_bytes) is_read ∙ items_spelled read_ends ends_bytes 8 ends_again count page is (omega arith)) zeros;
    }

-- a page that spells something is zero behind its places in use
pub words_end : (count : ℕ) (page : List ℕ) (words : List Word) → SpelledWords count page words → list_all (λ byte. byte == 0) (drop (4 * count) page) ≡ true
words_end count page words spells = rest_passes (4 * count) page (flat_map bytes_of_word words) spells.spelled (omega (arith, spells.count_is, length-items bytes_of_word 4 (λ x. refl) words))

pub arcs_end : (nodes count : ℕ) (page : List ℕ) (arcs : List Ends) → SpelledArcs nodes count page arcs → list_all (λ byte. byte == 0) (drop (8 * count) page) ≡ true
arcs_end nodes count page arcs spells = rest_passes (8 * count) page (flat_map ends_bytes arcs) spells.spelled (omega (arith, spells.count_is, length-items ends_bytes 8 (λ x. refl) arcs))
