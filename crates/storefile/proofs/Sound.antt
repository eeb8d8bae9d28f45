-- What opening answers is stored.
use Rattle.std.proofs.Common.{◌≡◌, ℕ, zero, suc, ◌+◌, ◌*◌, ◌-◌, ◌^◌, ◌≤◌, ◌<◌, Bool, true, false, cond, List, [], ◌∷◌, ◌++◌, length, take, drop, Option, Some, None, Result, Ok, Err, refl, sym, ap, subst, ◌∙◌, arith, ◌⊎◌, inl, inr}
use Rattle.std.specs.Prelude.{nat_le, nat_lt, ◌&&◌, ◌==◌, map, min, slice_index, option_and_then}
use Rattle.std.specs.List.{zip, list_all, AllByRecursion}
use Rattle.std.specs.Str.{bytes_eq}
use Rattle.std.proofs.lemmas.Bool.Decides.{nat_tests}
use Rattle.std.proofs.lemmas.Bool.{leb-true, ltb-true, eqb-true, cases_lt}
use Rattle.std.proofs.lemmas.Slice.Eq.{bytes_eq-Decides}
use Rattle.std.proofs.lemmas.List.{drop-drop, drop_all, drop_at, take_at, take_all, append-nil, length-append, nil_from_length}
use Rattle.byteorder.specs.Endian.{big_number}
use Rattle.roadnet.specs.declared.commands.Command.{Command}
use Rattle.roadnet.specs.declared.commands.Command.TheVariants.{Set, Close, Reopen, Mark, Unmark, Lay}
use Rattle.roadnet.specs.declared.refusals.Refusal.{Refusal}
use Rattle.pages.specs.declared.header.Header.{Header}
use Rattle.pages.specs.declared.content.Ends.{Ends}
use Rattle.pages.specs.declared.content.Word.{Word}
use Rattle.pages.specs.declared.content.Slot.{Slot}
use Rattle.pages.specs.declared.content.Slot.TheVariants.{A, B}
use Rattle.pages.specs.Contents.{Head, Entry}
use Rattle.pages.specs.Spelling.{body, IsHeader, SpelledHeader, arc_page, SpelledArcs, word_page, SpelledWords, IsHead, SpelledHead, IsWord, FitsRecord, MayGoOn, IsRecord, AreRecords, IsEntry, SpelledEntry, ends_of, word_of}
use Rattle.pages.specs.declared.content.Format.{Format}
use Rattle.pages.specs.declared.content.Format.TheVariants.{One, Two}
use Rattle.pages.specs.declared.content.Record.{Record}
use Rattle.pages.specs.Formats.{IsHeaderRoomFor, landmarks_at}
use Rattle.pages.specs.Grouping.{grouped, are_whole, is_of_format}
use Rattle.pages.proofs.Grouped.{groups_some, records_again}
use Rattle.pages.proofs.Records.{record_of_format}
use Rattle.storefile.proofs.Names.{header_body, head_body, records_body}
use Rattle.pages.specs.Reading.{read_header, read_items, read_ends, read_word, read_records, is_ends}
use Rattle.storefile.specs.StoreFile.{is_open, first_field, IsCurrent}
use Rattle.pages.specs.Layout.{head_page_at}
use Rattle.storefile.specs.Judging.{◌>>=◌, unless_so, spelled_at, all_spelled, kept_if, is_room_for, is_header, header_in, arcs_in, words_in, is_ascending, read_head, is_head, head_in, fits_record, is_record, are_entry, entry_with, entry_in, current_slot, arc_from}
use Rattle.pages.proofs.Items.{length-read}
use Rattle.pages.proofs.Padding.{both}
use Rattle.pages.proofs.Places.{are_ends, all_pass}
use Rattle.pages.proofs.Heads.{are_nodes}

-- ---- steps that were not refused

pub bind_ok : {X Y : Type 0} (r : Result X Refusal) (f : X → Result Y Refusal) (y : Y) → (r >>= f) ≡ Ok y → (x : X) × (r ≡ Ok x) × (f x ≡ Ok y)
bind_ok (Ok x) f y e = (x, refl, e)
bind_ok (Err d) f y e = absurd cc

pub unless_ok : (t : Bool) (d : Refusal) (x : Unit {0}) → unless_so t d ≡ Ok x → t ≡ true
unless_ok true d x e = refl
unless_ok false d x e = absurd cc

pub spelled_ok : {X : Type 0} (k : ℕ) (o : Option X) (x : X) → spelled_at k o ≡ Ok x → o ≡ Some x
spelled_ok k None x e = absurd cc
spelled_ok k (Some y) x e = let same : y ≡ x = cc in ap (λ z. Some z) same

kept_ok : {X : Type 0} (b : Bool) (x y : X) → kept_if b x ≡ Some y → (b ≡ true) × (x ≡ y)
kept_ok true x y e = (refl, cc)
kept_ok false x y e = absurd cc

guard_ok : {X : Type 0} (b : Bool) (x : Option X) (y : X) → cond b x None ≡ Some y → (b ≡ true) × (x ≡ Some y)
guard_ok true x y e = (refl, e)
guard_ok false x y e = absurd cc

then_ok : {X Y : Type 0} (f : X → Option Y) (o : Option X) (y : Y) → option_and_then f o ≡ Some y → (x : X) × (o ≡ Some x) × (f x ≡ Some y)
then_ok f None y e = absurd cc
then_ok f (Some x) y e = (x, refl, e)

equal : (xs ys : List ℕ) → bytes_eq xs ys ≡ true → xs ≡ ys
equal xs ys e = (bytes_eq-Decides xs ys).0 e

-- ---- what is found is spelled

room_from : (f : Format) (arcs room : ℕ) → is_room_for f arcs room ≡ true → IsHeaderRoomFor f arcs room
room_from One arcs room e = λ one. eqb-true room arcs e
room_from Two arcs room e = λ one. absurd cc

header_from : (h : Header) → is_header h ≡ true → IsHeader h
header_from h e =
    let a = both _ _ e in
    let b = both _ _ a.0 in
    let c = both _ _ b.0 in
    let d = both _ _ c.0 in
    let f = both _ _ d.0 in
    let g = both _ _ f.0 in
    record {
      some_node = leb-true 1 h.nodes g.0;
      nodes_to = leb-true h.nodes 33554432 g.1;
      arcs_to = leb-true h.arcs h.room f.1;
      room_to = leb-true h.room 67108864 d.1;
      room_fits = room_from h.format h.arcs h.room c.1;
      some_page = leb-true 1 h.journal_pages b.1;
      pages_to = leb-true h.journal_pages 65536 a.1;
    }

pub header_spelled : (page : List ℕ) (h : Header) → header_in page ≡ Some h → SpelledHeader page h
header_spelled page h e =
    let k = kept_ok (is_header (read_header page) && bytes_eq (body page) (header_body (read_header page))) (read_header page) h e in
    let b = both (is_header (read_header page)) (bytes_eq (body page) (header_body (read_header page))) k.0 in
    subst (SpelledHeader page) k.1 (record { fits = header_from (read_header page) b.0; spelled = equal _ _ b.1 })

pub arcs_spelled : (nodes count : ℕ) (page : List ℕ) (arcs : List Ends) → arcs_in nodes count page ≡ Some arcs → SpelledArcs nodes count page arcs
arcs_spelled nodes count page arcs e =
    let r = read_items read_ends 8 count page in
    let k = kept_ok (list_all (is_ends nodes) (read_items read_ends 8 count page) && bytes_eq page (arc_page (read_items read_ends 8 count page))) (read_items read_ends 8 count page) arcs e in
    let b = both (list_all (is_ends nodes) (read_items read_ends 8 count page)) (bytes_eq page (arc_page (read_items read_ends 8 count page))) k.0 in
    subst (SpelledArcs nodes count page) k.1 (record { count_is = length-read read_ends 8 count page; fits = are_ends nodes (read_items read_ends 8 count page) b.0; spelled = equal _ _ b.1 })

words_fit : (n : ℕ) (bytes : List ℕ) → AllByRecursion IsWord (read_items read_word 4 n bytes)
words_fit zero bytes = tt
words_fit (suc n) bytes = (omega arith, words_fit n (drop 4 bytes))

pub words_spelled : (count : ℕ) (page : List ℕ) (words : List Word) → words_in count page ≡ Some words → SpelledWords count page words
words_spelled count page words e =
    let k = kept_ok (bytes_eq page (word_page (read_items read_word 4 count page))) (read_items read_word 4 count page) words e in
    subst (SpelledWords count page) k.1 (record { count_is = length-read read_word 4 count page; fits = words_fit count page; spelled = equal _ _ k.0 })

from_ascending : (xs : List ℕ) (k : ℕ) → is_ascending xs ≡ true → k + 1 < length xs → slice_index xs k < slice_index xs (k + 1)
from_ascending [] k e lt = absurd (omega arith)
from_ascending (x ∷ []) k e lt = absurd (omega arith)
from_ascending (x ∷ y ∷ xs) zero e lt = let b = both (nat_lt x y) (is_ascending (y ∷ xs)) e in let t : nat_lt x y ≡ true = b.0 in grind (arith, nat_tests)
from_ascending (x ∷ y ∷ xs) (suc k) e lt =
    let b = both (nat_lt x y) (is_ascending (y ∷ xs)) e in
    let s : suc (k + 1) ≡ suc k + 1 = omega arith in
    subst (λ (j : ℕ). slice_index (y ∷ xs) k < slice_index (x ∷ y ∷ xs) j) s (from_ascending (y ∷ xs) k b.1 (omega arith))

head_from : (h : Header) (s : Head) → length s.landmarks ≤ 1000 → is_head h s ≡ true → IsHead h s
head_from h s few e =
    let b = both _ _ e in
    let d = both _ _ b.0 in
    let n = both _ _ d.0 in
    let m = both _ _ n.1 in
    let t : (nat_le 1 s.epoch && nat_le s.epoch (s.next_sequence + 1) && nat_le s.next_sequence s.version && nat_le s.version (2 ^ 48)) ≡ true = n.0 in
    record {
      numbers = record { epoch_from = grind (arith, nat_tests); epoch_to = grind (arith, nat_tests); sequence_to = grind (arith, nat_tests); version_to = grind (arith, nat_tests); count_to = few };
      arcs = (leb-true h.arcs s.arcs m.0, leb-true s.arcs h.room m.1);
      ascending = λ k lt. from_ascending s.landmarks k d.1 lt;
      each = are_nodes h.nodes s.landmarks b.1;
    }

pub head_spelled : (h : Header) (page : List ℕ) (s : Head) → head_in h page ≡ Some s → SpelledHead h page s
head_spelled h page s e =
    let g = guard_ok (nat_le (big_number 4 (drop 24 page)) 1000) (kept_if (is_head h (read_head h page) && bytes_eq (body page) (head_body h.format (read_head h page))) (read_head h page)) s e in
    let few : big_number 4 (drop 24 page) ≤ 1000 = leb-true _ _ g.0 in
    let k = kept_ok (is_head h (read_head h page) && bytes_eq (body page) (head_body h.format (read_head h page))) (read_head h page) s g.1 in
    let b = both (is_head h (read_head h page)) (bytes_eq (body page) (head_body h.format (read_head h page))) k.0 in
    subst (SpelledHead h page) k.1 (record { fits = head_from h (read_head h page) (omega (arith, few, length-read (big_number 4) 4 (big_number 4 (drop 24 page)) (drop (landmarks_at h.format) page))) b.0; spelled = equal _ _ b.1 })

command_from : (c : Command) → fits_record c ≡ true → FitsRecord Two c
command_from (Set k w) e = let b = both (nat_lt k (2 ^ 32)) (nat_lt w (2 ^ 32)) e in (ltb-true k (2 ^ 32) b.0, ltb-true w (2 ^ 32) b.1)
command_from (Close k) e = ltb-true k (2 ^ 32) e
command_from (Reopen k) e = ltb-true k (2 ^ 32) e
command_from (Mark x) e = ltb-true x (2 ^ 32) e
command_from (Unmark x) e = ltb-true x (2 ^ 32) e
command_from (Lay t h w) e =
    let b = both (nat_lt t (2 ^ 32) && nat_lt h (2 ^ 32)) (nat_lt w (2 ^ 32)) e in
    let a = both (nat_lt t (2 ^ 32)) (nat_lt h (2 ^ 32)) b.0 in
    (tt, ltb-true t (2 ^ 32) a.0, ltb-true h (2 ^ 32) a.1, ltb-true w (2 ^ 32) b.1)

may_go_on : (b : Bool) → MayGoOn Two b
may_go_on true = tt
may_go_on false = tt

record_from : (f : Format) (r : Record) → is_record f r ≡ true → IsRecord f r
record_from f r e =
    let b = both (fits_record r.command) (is_of_format f r) e in
    record_of_format f r (record { command = command_from r.command b.0; more = may_go_on r.goes_on }) b.1

entry_from : (f : Format) (q n : ℕ) (rs : List Record) → are_entry f q n rs ≡ true → IsEntry f (record { sequence = q; first_number = n; groups = grouped rs })
entry_from f q n rs h =
    let a = both _ _ h in
    let b = both _ _ a.0 in
    let t : (nat_lt q (2 ^ 64) && nat_lt n (2 ^ 64) && nat_le 1 (length rs) && nat_le (length rs) 253) ≡ true = b.0 in
    record {
      sequence_fits = grind (arith, nat_tests);
      number_fits = grind (arith, nat_tests);
      groups = groups_some rs;
      records = subst (AreRecords f) (sym (records_again rs b.1)) (record { some = grind (arith, nat_tests); few = grind (arith, nat_tests); each = all_pass (is_record f) (IsRecord f) (record_from f) rs a.1 });
    }

pub entry_spelled : (f : Format) (page : List ℕ) (e : Entry) → entry_in f page ≡ Some e → SpelledEntry f page e
entry_spelled f page e h =
    let g = guard_ok (nat_le (big_number 2 (drop 16 page)) 253) (option_and_then (entry_with f page) (read_records (big_number 2 (drop 16 page)) (drop 32 page))) e h in
    let t = then_ok (entry_with f page) (read_records (big_number 2 (drop 16 page)) (drop 32 page)) e g.1 in
    let k = kept_ok (are_entry f (big_number 8 page) (big_number 8 (drop 8 page)) t.0 && bytes_eq (body page) (records_body (big_number 8 page) (big_number 8 (drop 8 page)) t.0)) (record { sequence = big_number 8 page; first_number = big_number 8 (drop 8 page); groups = grouped t.0 }) e t.2 in
    let b = both (are_entry f (big_number 8 page) (big_number 8 (drop 8 page)) t.0) (bytes_eq (body page) (records_body (big_number 8 page) (big_number 8 (drop 8 page)) t.0)) k.0 in
    let whole : are_whole t.0 ≡ true = (both _ _ (both _ _ b.0).0).1 in
    subst (SpelledEntry f page) k.1 (record {
      fits = entry_from f (big_number 8 page) (big_number 8 (drop 8 page)) t.0 b.0;
      spelled = equal _ _ b.1 ∙ ap (λ (rs : List Record). records_body (big_number 8 page) (big_number 8 (drop 8 page)) rs) (sym (records_again t.0 whole));
    })

-- ---- the current slot

greater : (a b : ℕ) → (a == b) ≡ false → nat_lt a b ≡ false → b < a
greater a b p q = grind (arith, nat_tests)

pick : (p q : Bool) (kb : Refusal) (slot : Slot) → cond p (Err kb) (cond q (Ok B) (Ok A)) ≡ Ok slot → (p ≡ false) × (((q ≡ true) × (B ≡ slot)) ⊎ ((q ≡ false) × (A ≡ slot)))
pick true q kb slot e = absurd cc
pick false true kb slot e = (refl, inl (refl, cc))
pick false false kb slot e = (refl, inr (refl, cc))

slot_is : (a b : Bool) (ea eb : ℕ) (ka kb : Refusal) (slot : Slot) → cond a (cond b (cond (ea == eb) (Err kb) (cond (nat_lt ea eb) (Ok B) (Ok A))) (Ok A)) (cond b (Ok B) (Err ka)) ≡ Ok slot
    → ((A ≡ slot) × (a ≡ true) × (b ≡ true → eb < ea)) ⊎ ((B ≡ slot) × (b ≡ true) × (a ≡ true → ea < eb))
slot_is false false ea eb ka kb slot e = absurd cc
slot_is false true ea eb ka kb slot e = inr (cc, refl, λ f. absurd cc)
slot_is true false ea eb ka kb slot e = inl (cc, refl, λ f. absurd cc)
slot_is true true ea eb ka kb slot e =
    let p = pick (ea == eb) (nat_lt ea eb) kb slot e in
    elim p.1 [
      | inl w ↦ inr (w.1, refl, λ f. ltb-true ea eb w.0)
      | inr w ↦ inl (w.1, refl, λ f. greater ea eb p.0 w.0)
    ]

pub current_is : (pages : ℕ → List ℕ) (h : Header) (slot : Slot) → current_slot pages h ≡ Ok slot → IsCurrent pages h slot
current_is pages h slot e =
    elim (slot_is (is_open (pages (head_page_at h A))) (is_open (pages (head_page_at h B))) (first_field (pages (head_page_at h A))) (first_field (pages (head_page_at h B))) _ _ slot e) [
      | inl w ↦ subst (IsCurrent pages h) w.0 (record { opened = w.1; above = w.2 })
      | inr w ↦ subst (IsCurrent pages h) w.0 (record { opened = w.1; above = w.2 })
    ]

-- ---- items over several pages

front_part : {X : Type 0} (places : ℕ) (ys zs : List X) → length ys ≡ min places (length ys + length zs) → take places (ys ++ zs) ≡ ys
front_part places ys zs e =
    elim (cases_lt (length ys) places) [
      | inl short ↦ let none : length zs ≡ 0 = omega arith in ap (λ ts. take places (ys ++ ts)) (nil_from_length zs none) ∙ ap (take places) (append-nil ys) ∙ take_all places ys (omega arith)
      | inr le ↦ take_at ys zs places (omega arith)
    ]

-- There may be more pages than the items fill: the pages behind them hold none.
none_there : {X : Type 0} (places k : ℕ) (xs : List X) → length xs ≤ k → take places (drop k xs) ≡ take places []
none_there places k xs le = ap (take places) (drop_all k xs le)

pub every_part : {X : Type 0} (decode : ℕ → Option (List X)) (number : ℕ → ℕ) (places m : ℕ) (sized : (j : ℕ) (ys : List X) → decode j ≡ Some ys → length ys ≡ min places (m - places * j)) (n i : ℕ) (xs : List X)
    → all_spelled decode number i n ≡ Ok xs → m ≤ places * (i + n) → 0 < places
    → (length xs ≡ m - places * i) × ((j : ℕ) → i ≤ j → j < i + n → decode j ≡ Some (take places (drop (places * (j - i)) xs)))
every_part decode number places m sized zero i xs e covers some =
    let none : [] ≡ xs = cc in
    let same : i + 0 ≡ i = omega arith in
    let past : m ≤ places * i = subst (λ (k : ℕ). m ≤ places * k) same covers in
    (sym (ap length none) ∙ (let z : 0 ≡ m - places * i = omega arith in z), λ j le lt. absurd (omega arith))
every_part {X = X} decode number places m sized (suc n) i xs e covers some =
    let a = bind_ok (spelled_at (number i) (decode i)) (λ first. all_spelled decode number (suc i) n >>= λ others. Ok (first ++ others)) xs e in
    let b = bind_ok (all_spelled decode number (suc i) n) (λ others. Ok (a.0 ++ others)) xs a.2 in
    let here : decode i ≡ Some a.0 = spelled_ok (number i) (decode i) a.0 a.1 in
    let joined : a.0 ++ b.0 ≡ xs = cc (b.2) in
    let size = sized i a.0 here in
    let shift : i + suc n ≡ suc i + n = omega arith in
    let further = every_part decode number places m sized n (suc i) b.0 b.1 (subst (λ (k : ℕ). m ≤ places * k) shift covers) some in
    let next : places * suc i ≡ places * i + places = omega arith in
    let total : length a.0 + length b.0 ≡ m - places * i = omega (arith, size, further.0) in
    let first : decode i ≡ Some (take places (a.0 ++ b.0)) = here ∙ ap (λ t. Some t) (sym (front_part places a.0 b.0 (omega (arith, size, total)))) in (
      sym (ap length joined) ∙ length-append a.0 b.0 ∙ total,
      subst (λ (ts : List X). (j : ℕ) → i ≤ j → j < i + suc n → decode j ≡ Some (take places (drop (places * (j - i)) ts))) joined (λ j le lt.
          elim (cases_lt i j) [
            | inl later ↦
                let split : places * (j - i) ≡ places + places * (j - suc i) = let d : j - i ≡ suc (j - suc i) = omega arith in ap (λ (t : ℕ). places * t) d ∙ (let q : places * suc (j - suc i) ≡ places + places * (j - suc i) = omega arith in q) in
                elim (cases_lt (length a.0) places) [
                  | inl short ↦
                      let empty : length b.0 ≡ 0 = omega (arith, size, further.0, next) in
                      let past : length (a.0 ++ b.0) ≤ places * (j - i) = omega (arith, length-append a.0 b.0, split) in
                      further.1 j later (omega arith)
                      ∙ ap (λ ts. Some ts) (none_there places (places * (j - suc i)) b.0 (omega arith) ∙ sym (none_there places (places * (j - i)) (a.0 ++ b.0) past))
                  | inr ge ↦
                      let full : length a.0 ≡ places = omega (arith, size) in
                      further.1 j later (omega arith)
                      ∙ ap (λ ts. Some (take places ts)) (ap (drop (places * (j - suc i))) (sym (drop_at a.0 b.0 places full)) ∙ drop-drop (places * (j - suc i)) places (a.0 ++ b.0) ∙ ap (λ (t : ℕ). drop t (a.0 ++ b.0)) (sym split))
                ]
            | inr le' ↦
                let same : i ≡ j = omega arith in
                let zero : places * (j - i) ≡ 0 = let d : j - i ≡ 0 = omega arith in ap (λ (t : ℕ). places * t) d ∙ (let q : places * 0 ≡ 0 = omega arith in q) in
                ap decode (sym same) ∙ first ∙ ap (λ (t : ℕ). Some (take places (drop t (a.0 ++ b.0)))) (sym zero)
          ]),
    )

-- ---- the arcs

pub ends_again : (ends : List Ends) (words : List Word) → length ends ≡ length words → map ends_of (map arc_from (zip ends words)) ≡ ends
ends_again [] words e = refl
ends_again (x ∷ ends) [] e = absurd (omega arith)
ends_again (x ∷ ends) (w ∷ words) e = ap (λ t. x ∷ t) (ends_again ends words (omega arith))

pub words_again : (ends : List Ends) (words : List Word) → length ends ≡ length words → map word_of (map arc_from (zip ends words)) ≡ words
words_again [] [] e = refl
words_again [] (w ∷ words) e = absurd (omega arith)
words_again (x ∷ ends) [] e = absurd (omega arith)
words_again (x ∷ ends) (w ∷ words) e = ap (λ t. w ∷ t) (words_again ends words (omega arith))
