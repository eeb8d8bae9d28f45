-- What a page spells is what is found in it.
use Rattle.std.proofs.Common.{◌≡◌, ℕ, suc, ◌+◌, ◌^◌, ◌≤◌, ◌<◌, Bool, true, false, cond, List, [], ◌∷◌, length, drop, Option, Some, None, refl, ap, subst, ◌∙◌, arith, eq-eqb}
use Rattle.std.specs.Prelude.{nat_le, nat_lt, ◌&&◌, slice_index, option_and_then}
use Rattle.std.specs.List.{list_all}
use Rattle.std.specs.List.Sorted.{IsStrictlyIncreasing}
use Rattle.std.specs.Str.{bytes_eq}
use Rattle.std.proofs.lemmas.Bool.Decides.{nat_tests}
use Rattle.std.proofs.lemmas.Bool.{le-leb}
use Rattle.std.proofs.lemmas.Slice.Eq.{bytes_eq-Decides}
use Rattle.byteorder.specs.Endian.{big_number}
use Rattle.roadnet.specs.declared.commands.Command.{Command}
use Rattle.roadnet.specs.declared.commands.Command.TheVariants.{Set, Close, Reopen, Mark, Unmark, Lay}
use Rattle.pages.specs.declared.header.Header.{Header}
use Rattle.pages.specs.declared.content.Ends.{Ends}
use Rattle.pages.specs.declared.content.Word.{Word}
use Rattle.pages.specs.Contents.{Head, Entry}
use Rattle.pages.specs.Spelling.{body, IsHeader, SpelledHeader, arc_page, SpelledArcs, word_page, SpelledWords, IsHead, SpelledHead, FitsRecord, IsRecord, IsEntry, SpelledEntry}
use Rattle.pages.specs.declared.content.Format.{Format}
use Rattle.pages.specs.declared.content.Format.TheVariants.{One, Two}
use Rattle.pages.specs.declared.content.Record.{Record}
use Rattle.pages.specs.Formats.{IsHeaderRoomFor, landmarks_at}
use Rattle.pages.specs.Grouping.{records_in, grouped}
use Rattle.pages.specs.Reading.{read_items, read_records, is_ends}
use Rattle.storefile.specs.Judging.{kept_if, is_room_for, is_header, header_in, arcs_in, words_in, is_ascending, read_head, is_head, head_in, fits_record, is_record, are_entry, entry_with, entry_in}
use Rattle.storefile.proofs.Names.{header_body, head_body, entry_body, records_body}
use Rattle.pages.proofs.Headers.{header_read}
use Rattle.pages.proofs.Entries.{entry_read}
use Rattle.pages.proofs.Grouped.{grouped_again, records_whole}
use Rattle.pages.proofs.Records.{record_is_of}
use Rattle.pages.proofs.Heads.{head_read, nodes_are, same_head}
use Rattle.pages.proofs.Places.{arcs_read, words_read, ends_are, pass_all}

kept_true : {X : Type 0} (b : Bool) (x : X) → b ≡ true → kept_if b x ≡ Some x
kept_true true x e = refl
kept_true false x e = absurd cc

pub and_true : (a b : Bool) → a ≡ true → b ≡ true → (a && b) ≡ true
and_true true true p q = refl
and_true true false p q = q
and_true false b p q = p

pub same_bytes : (xs ys : List ℕ) → xs ≡ ys → bytes_eq xs ys ≡ true
same_bytes xs ys e = (bytes_eq-Decides xs ys).1 e

room_test : (f : Format) (arcs room : ℕ) → IsHeaderRoomFor f arcs room → is_room_for f arcs room ≡ true
room_test One arcs room is = eq-eqb room arcs (is refl)
room_test Two arcs room is = refl

header_test : (h : Header) → IsHeader h → is_header h ≡ true
header_test h fits =
    let room : is_room_for h.format h.arcs h.room ≡ true = room_test h.format h.arcs h.room fits.room_fits in
    and_true _ _ (and_true _ _ (and_true _ _ (and_true _ _ (and_true _ _ (and_true _ _ (le-leb 1 h.nodes fits.some_node) (le-leb h.nodes 33554432 fits.nodes_to)) (le-leb h.arcs h.room fits.arcs_to)) (le-leb h.room 67108864 fits.room_to)) room) (le-leb 1 h.journal_pages fits.some_page)) (le-leb h.journal_pages 65536 fits.pages_to)

pub header_found : (page : List ℕ) (h : Header) → SpelledHeader page h → header_in page ≡ Some h
header_found page h spells =
    let test : is_header h ≡ true = header_test h spells.fits in
    ap (λ (r : Header). kept_if (is_header r && bytes_eq (body page) (header_body r)) r) (header_read page h spells)
    ∙ kept_true (is_header h && bytes_eq (body page) (header_body h)) h (and_true _ _ test (same_bytes (body page) (header_body h) spells.spelled))

pub arcs_found : (nodes count : ℕ) (page : List ℕ) (arcs : List Ends) → nodes < 2 ^ 32 → SpelledArcs nodes count page arcs → arcs_in nodes count page ≡ Some arcs
arcs_found nodes count page arcs lt spells =
    ap (λ (r : List Ends). kept_if (list_all (is_ends nodes) r && bytes_eq page (arc_page r)) r) (arcs_read nodes count page arcs lt spells)
    ∙ kept_true (list_all (is_ends nodes) arcs && bytes_eq page (arc_page arcs)) arcs (and_true _ _ (ends_are nodes arcs spells.fits) (same_bytes page (arc_page arcs) spells.spelled))

pub words_found : (count : ℕ) (page : List ℕ) (words : List Word) → SpelledWords count page words → words_in count page ≡ Some words
words_found count page words spells =
    ap (λ (r : List Word). kept_if (bytes_eq page (word_page r)) r) (words_read count page words spells)
    ∙ kept_true (bytes_eq page (word_page words)) words (same_bytes page (word_page words) spells.spelled)

next_place : (x : ℕ) (xs : List ℕ) → IsStrictlyIncreasing (x ∷ xs) → IsStrictlyIncreasing xs
next_place x xs h k lt =
    let e : suc k + 1 ≡ suc (k + 1) = omega arith in
    subst (λ (j : ℕ). slice_index (x ∷ xs) (suc k) < slice_index (x ∷ xs) j) e (h (suc k) (omega arith))

ascending_true : (xs : List ℕ) → IsStrictlyIncreasing xs → is_ascending xs ≡ true
ascending_true [] h = refl
ascending_true (x ∷ []) h = refl
ascending_true (x ∷ y ∷ xs) h =
    let first : x < y = h 0 (omega arith) in
    and_true (nat_lt x y) (is_ascending (y ∷ xs)) (grind (arith, nat_tests)) (ascending_true (y ∷ xs) (next_place x (y ∷ xs) h))

head_test : (h : Header) (s : Head) → IsHead h s → is_head h s ≡ true
head_test h s fits =
    let n = fits.numbers in
    let numbers : (nat_le 1 s.epoch && nat_le s.epoch (s.next_sequence + 1) && nat_le s.next_sequence s.version && nat_le s.version (2 ^ 48)) ≡ true = grind (arith, nat_tests) in
    let arcs : (nat_le h.arcs s.arcs && nat_le s.arcs h.room) ≡ true = and_true _ _ (le-leb h.arcs s.arcs fits.arcs.0) (le-leb s.arcs h.room fits.arcs.1) in
    and_true _ _ (and_true _ _ (and_true _ _ numbers arcs) (ascending_true s.landmarks fits.ascending)) (nodes_are h.nodes s.landmarks fits.each)

guarded : {X : Type 0} (n most : ℕ) (x y : Option X) → n ≤ most → x ≡ y → cond (nat_le n most) x None ≡ y
guarded n most x y h e = let t : nat_le n most ≡ true = grind (arith, nat_tests) in rw t e

pub head_found : (h : Header) (page : List ℕ) (s : Head) → IsHeader h → SpelledHead h page s → head_in h page ≡ Some s
head_found h page s ok spells =
    let r = head_read h page s ok spells in
    let is : read_head h page ≡ s = same_head (read_head h page) s r.epoch r.version r.next_sequence r.arcs (ap (λ (k : ℕ). read_items (big_number 4) 4 k (drop (landmarks_at h.format) page)) r.count ∙ r.landmarks) in
    let few : big_number 4 (drop 24 page) ≤ 1000 = omega (arith, r.count, spells.fits.numbers.count_to) in
    guarded (big_number 4 (drop 24 page)) 1000 (kept_if (is_head h (read_head h page) && bytes_eq (body page) (head_body h.format (read_head h page))) (read_head h page)) (Some s) few
    (ap (λ (t : Head). kept_if (is_head h t && bytes_eq (body page) (head_body h.format t)) t) is
    ∙ kept_true (is_head h s && bytes_eq (body page) (head_body h.format s)) s (and_true _ _ (head_test h s spells.fits) (same_bytes (body page) (head_body h.format s) spells.spelled)))

record_test : (f : Format) (c : Command) → FitsRecord f c → fits_record c ≡ true
record_test f (Set k w) fits = let p : k < 2 ^ 32 = fits.0 in let q : w < 2 ^ 32 = fits.1 in grind (arith, nat_tests)
record_test f (Close k) fits = grind (arith, nat_tests)
record_test f (Reopen k) fits = grind (arith, nat_tests)
record_test f (Mark x) fits = grind (arith, nat_tests)
record_test f (Unmark x) fits = grind (arith, nat_tests)
record_test f (Lay t h w) fits = let p : t < 2 ^ 32 = fits.1 in let q : h < 2 ^ 32 = fits.2 in let r : w < 2 ^ 32 = fits.3 in grind (arith, nat_tests)

one_test : (f : Format) (r : Record) → IsRecord f r → is_record f r ≡ true
one_test f r fits = and_true _ _ (record_test f r.command fits.command) (record_is_of f r fits)

entry_test : (f : Format) (e : Entry) → IsEntry f e → are_entry f e.sequence e.first_number (records_in e.groups) ≡ true
entry_test f e fits =
    let some = fits.records.some in
    let few = fits.records.few in
    let numbers : (nat_lt e.sequence (2 ^ 64) && nat_lt e.first_number (2 ^ 64) && nat_le 1 (length (records_in e.groups)) && nat_le (length (records_in e.groups)) 253) ≡ true = grind (arith, nat_tests) in
    and_true _ _ (and_true _ _ numbers (records_whole e.groups)) (pass_all (is_record f) (IsRecord f) (one_test f) (records_in e.groups) fits.records.each)

abbrev kept_entry : Format → List ℕ → ℕ → ℕ → List Record → Option Entry
kept_entry f page q n rs = kept_if (are_entry f q n rs && bytes_eq (body page) (records_body q n rs)) (record { sequence = q; first_number = n; groups = grouped rs })

same_kept : (f : Format) (page : List ℕ) (q q' n n' : ℕ) (rs : List Record) → q ≡ q' → n ≡ n' → kept_entry f page q n rs ≡ kept_entry f page q' n' rs
same_kept f page q q' n n' rs p r = rw (p, r) refl

pub entry_found : (f : Format) (page : List ℕ) (e : Entry) → SpelledEntry f page e → entry_in f page ≡ Some e
entry_found f page e spells =
    let r = entry_read f page e spells in
    let rs = records_in e.groups in
    let n : big_number 2 (drop 16 page) ≡ length (records_in e.groups) = r.count in
    guarded (big_number 2 (drop 16 page)) 253 (option_and_then (entry_with f page) (read_records (big_number 2 (drop 16 page)) (drop 32 page))) (Some e)
    (omega (arith, n, spells.fits.records.few))
    (ap (option_and_then (entry_with f page)) (ap (λ (k : ℕ). read_records k (drop 32 page)) n ∙ r.records)
    ∙ same_kept f page (big_number 8 page) e.sequence (big_number 8 (drop 8 page)) e.first_number (records_in e.groups) r.sequence r.first_number
    ∙ kept_true (are_entry f e.sequence e.first_number (records_in e.groups) && bytes_eq (body page) (records_body e.sequence e.first_number (records_in e.groups))) (record { sequence = e.sequence; first_number = e.first_number; groups = grouped (records_in e.groups) })
    (and_true _ _ (entry_test f e spells.fits) (same_bytes (body page) (entry_body e) spells.spelled))
    ∙ ap (λ (gs : List (List Command)). let x : Entry = record { sequence = e.sequence; first_number = e.first_number; groups = gs } in Some x) (grouped_again e.groups spells.fits.groups))
