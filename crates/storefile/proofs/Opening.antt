-- A file that stores something is opened, with that.
use Rattle.std.proofs.Common.{◌≡◌, ℕ, zero, suc, ◌+◌, ◌-◌, ◌*◌, ◌^◌, ◌≤◌, ◌<◌, Bool, true, false, cond, List, [], ◌∷◌, ◌++◌, length, take, drop, Option, Some, None, Result, Ok, Err, refl, sym, ap, subst, ◌∙◌, arith, eq-eqb}
use Rattle.std.specs.Prelude.{nat_le, nat_lt, ◌&&◌, ◌==◌, map, codes, option_and_then}
use Rattle.std.specs.List.{zip, flat_map}
use Rattle.std.specs.Str.{bytes_eq}
use Rattle.std.proofs.lemmas.Bool.Decides.{nat_tests}
use Rattle.std.proofs.lemmas.Bool.{le-leb}
use Rattle.std.proofs.lemmas.List.{drop-drop, drop_all, take-append-drop, map-append, length-append, length-map, length-take, length-drop, take-map}
use Rattle.byteorder.specs.Endian.{big_number, big_bytes}
use Rattle.byteorder.specs.Numbers.{big_number-reads_back}
use Rattle.roadnet.specs.declared.arcs.RoadArc.{RoadArc}
use Rattle.roadnet.specs.declared.commands.Command.{Command}
use Rattle.roadnet.specs.declared.refusals.Refusal.{Refusal}
use Rattle.roadnet.specs.Net.{Net}
use Rattle.roadnet.specs.Step.{after}
use Rattle.roadnet.proofs.Stepped.{after_both}
use Rattle.pages.specs.declared.header.Header.{Header}
use Rattle.pages.specs.declared.content.Slot.{Slot}
use Rattle.pages.specs.declared.content.Slot.TheVariants.{A, B}
use Rattle.pages.specs.Contents.{Entry}
use Rattle.pages.specs.Spelling.{header_fields, SpelledHeader, ends_of, word_of}
use Rattle.pages.specs.declared.content.Format.{Format}
use Rattle.pages.specs.declared.content.Format.TheVariants.{One, Two}
use Rattle.pages.specs.Formats.{format_number_of, room_field}
use Rattle.pages.specs.Layout.{places_in_use, arc_pages, word_pages, end_pages, head_page_at, page_count}
use Rattle.storefile.proofs.Names.{arc_page_at, word_page_at, end_page_at}
use Rattle.storefile.specs.StoreFile.{part, is_open, journal_page_at, head_of, Stored, groups_of, first_field, is_standing, IsCurrent, HoldsJournal, Stores}
use Rattle.storefile.specs.Judging.{all_spelled, current_slot, ◌>>=◌, arc_from, header_in, arcs_in, words_in, head_in, entry_in, journal_from, opened_from}
use Rattle.pages.proofs.Padding.{begins}
use Rattle.storefile.proofs.Opened.{and_true, same_bytes, header_found, arcs_found, words_found, head_found, entry_found}

-- ---- items over several pages

pub all_found : {X : Type 0} (decode : ℕ → Option (List X)) (number : ℕ → ℕ) (places : ℕ) (xs : List X) (n i : ℕ)
    → ((j : ℕ) → i ≤ j → j < i + n → decode j ≡ Some (take places (drop (places * j) xs))) → length xs ≤ places * (i + n)
    → all_spelled decode number i n ≡ Ok (drop (places * i) xs)
all_found decode number places xs zero i each covers =
    let past : length xs ≤ places * i = let e : i + 0 ≡ i = omega arith in subst (λ (k : ℕ). length xs ≤ places * k) e covers in
    ap (λ ys. Ok ys) (sym (drop_all (places * i) xs past))
all_found {X = X} decode number places xs (suc n) i each covers =
    let here : decode i ≡ Some (take places (drop (places * i) xs)) = each i (omega arith) (omega arith) in
    let further = all_found decode number places xs n (suc i) (λ j le lt. each j (omega arith) (omega arith)) (let e : i + suc n ≡ suc i + n = omega arith in subst (λ (k : ℕ). length xs ≤ places * k) e covers) in
    let next : drop (places * suc i) xs ≡ drop places (drop (places * i) xs) = ap (λ (k : ℕ). drop k xs) (let e : places * suc i ≡ places * i + places = omega arith in e) ∙ sym (drop-drop places (places * i) xs) in
    let whole : take places (drop (places * i) xs) ++ drop (places * suc i) xs ≡ drop (places * i) xs = ap (λ ys. take places (drop (places * i) xs) ++ ys) next ∙ take-append-drop places (drop (places * i) xs) in
    rw (here, further) (ap (λ ys. Ok ys) whole)

-- ---- the current slot

chosen : (a b : Bool) (ea eb : ℕ) (ka kb : Refusal) → Bool → Result Slot Refusal
chosen a b ea eb ka kb x = cond a (cond b (cond (ea == eb) (Err kb) (cond (nat_lt ea eb) (Ok B) (Ok A))) (Ok A)) (cond b (Ok B) (Err ka))

only_a : (b : Bool) (ea eb : ℕ) (kb : Refusal) → (b ≡ true → eb < ea) → cond b (cond (ea == eb) (Err kb) (cond (nat_lt ea eb) (Ok B) (Ok A))) (Ok A) ≡ Ok A
only_a false ea eb kb h = refl
only_a true ea eb kb h =
    let lt : eb < ea = h refl in
    let p : (ea == eb) ≡ false = grind (arith, nat_tests) in
    let q : nat_lt ea eb ≡ false = grind (arith, nat_tests) in
    rw (p, q) refl

only_b : (a : Bool) (ea eb : ℕ) (kb : Refusal) → (a ≡ true → ea < eb) → cond a (cond (ea == eb) (Err kb) (cond (nat_lt ea eb) (Ok B) (Ok A))) (Ok B) ≡ Ok B
only_b false ea eb kb h = refl
only_b true ea eb kb h =
    let lt : ea < eb = h refl in
    let p : (ea == eb) ≡ false = grind (arith, nat_tests) in
    let q : nat_lt ea eb ≡ true = grind (arith, nat_tests) in
    rw (p, q) refl

pub slot_found : (pages : ℕ → List ℕ) (h : Header) (slot : Slot) → IsCurrent pages h slot → current_slot pages h ≡ Ok slot
slot_found pages h A is = let o : is_open (pages (head_page_at h A)) ≡ true = is.opened in rw o (only_a (is_open (pages (head_page_at h B))) (first_field (pages (head_page_at h A))) (first_field (pages (head_page_at h B))) _ is.above)
slot_found pages h B is = let o : is_open (pages (head_page_at h B)) ≡ true = is.opened in rw o (only_b (is_open (pages (head_page_at h A))) (first_field (pages (head_page_at h A))) (first_field (pages (head_page_at h B))) _ is.above)

-- ---- the arcs

pub arcs_joined : (arcs : List RoadArc) → map arc_from (zip (map ends_of arcs) (map word_of arcs)) ≡ arcs
arcs_joined [] = refl
arcs_joined (arc ∷ arcs) = ap (λ xs. arc ∷ xs) (arcs_joined arcs)

-- ---- the journal

first_defined : (o : Option Net) (ds : List (List Command)) (final : Net) → option_and_then (λ next. after next ds) o ≡ Some final → (next : Net) × (o ≡ Some next) × (after next ds ≡ Some final)
first_defined None ds final e = absurd cc
first_defined (Some next) ds final e = (next, refl, e)

some_same : (a b : Net) → after a [] ≡ Some b → a ≡ b
some_same a b e = cc

pub journal_found : (pages : ℕ → List ℕ) (h : Header) (most q v : ℕ) (net final : Net) (css : List (List (List Command))) → HoldsJournal pages h q v css → length css ≤ most
    → (length css < most → is_standing pages h (q + length css) ≡ false) → after net (flat_map (λ cs. cs) css) ≡ Some final → v + length (flat_map (λ cs. cs) css) ≤ 2 ^ 48
    → journal_from pages h most q v net ≡ Ok (css, final)
journal_found pages h zero q v net final [] holds few longest done fits = ap (λ (n : Net). Ok ([], n)) (some_same net final done)
journal_found pages h zero q v net final (cs ∷ css) holds few longest done fits = absurd (omega arith)
journal_found pages h (suc most) q v net final [] holds few longest done fits =
    let e : q + 0 ≡ q = omega arith in
    let stops : is_standing pages h q ≡ false = subst (λ (k : ℕ). is_standing pages h k ≡ false) e (longest (omega arith)) in
    rw stops (ap (λ (n : Net). Ok ([], n)) (some_same net final done))
journal_found pages h (suc most) q v net final (cs ∷ css) holds few longest done fits =
    let e : Entry = record { sequence = q; first_number = v + 1; groups = cs } in
    let stands : is_standing pages h q ≡ true = holds.0 in
    let found : entry_in h.format (pages (journal_page_at h q)) ≡ Some e = entry_found h.format (pages (journal_page_at h q)) e holds.1 in
    let first : (v + 1 == v + 1) ≡ true = grind (arith, nat_tests) in
    let joined = length-append cs (flat_map (λ xs. xs) css) in
    let version : nat_le (v + length cs) (2 ^ 48) ≡ true = le-leb (v + length cs) (2 ^ 48) (omega (arith, fits, joined)) in
    let next = first_defined (after net cs) (flat_map (λ xs. xs) css) final (sym (after_both net cs (flat_map (λ xs. xs) css)) ∙ done) in
    let defined : after net cs ≡ Some next.0 = next.1 in
    let along : length css < most → is_standing pages h (q + 1 + length css) ≡ false = λ lt. subst (λ (k : ℕ). is_standing pages h k ≡ false) (let e : q + suc (length css) ≡ q + 1 + length css = omega arith in e) (longest (omega arith)) in
    let rest : journal_from pages h most (q + 1) (v + length cs) next.0 ≡ Ok (css, final) = journal_found pages h most (q + 1) (v + length cs) next.0 final css holds.2 (omega arith) along next.2 (omega (arith, fits, joined)) in
    rw (stands, found, first, version, defined, rest) refl

-- ---- the whole file

pub part-map : {X Y : Type 0} (f : X → Y) (k n : ℕ) (xs : List X) → map f (take n (drop k xs)) ≡ take n (drop k (map f xs))
part-map f zero n xs = sym (take-map f n xs)
part-map f (suc k) n [] = sym (take-map f n [])
part-map f (suc k) n (x ∷ xs) = part-map f k n xs

with_arcs : (net : Net) (n r : ℕ) (arcs : List RoadArc) → n ≡ net.nodes → r ≡ net.room → arcs ≡ net.arcs → ◌≡◌ {A = Net} (record { nodes = n; arcs = arcs; landmarks = net.landmarks; room = r }) net
with_arcs net n r arcs p t q = rw (p, t, q) refl

-- the first arcs' ends and the others' are those of all
pub both_ends : (n : ℕ) (arcs : List RoadArc) → map ends_of (take n arcs) ++ map ends_of (drop n arcs) ≡ map ends_of arcs
both_ends n arcs = sym (map-append ends_of (take n arcs) (drop n arcs)) ∙ ap (map ends_of) (take-append-drop n arcs)

-- the number of its format is read in a page that spells a header
pub format_found : (page : List ℕ) (h : Header) → SpelledHeader page h → big_number 4 (drop 8 page) ≡ format_number_of h.format
format_found page h spells =
    let b = begins page (header_fields h) (omega arith) spells.spelled in
    ap (λ (xs : List ℕ). big_number 4 (drop 8 xs)) b.1
    ∙ big_number-reads_back 4 (format_number_of h.format) (big_bytes 4 h.nodes ++ big_bytes 4 h.arcs ++ big_bytes 4 h.journal_pages ++ big_bytes 4 (room_field h.format h.room) ++ b.0) (number_fits h.format)
  where
    number_fits : (f : Format) → format_number_of f < 2 ^ 32
    number_fits One = omega arith
    number_fits Two = omega arith

-- one step of opening that is not refused
passed : {X Y : Type 0} (r : Result X Refusal) (x : X) (f : X → Result Y Refusal) (y : Result Y Refusal) → r ≡ Ok x → f x ≡ y → (r >>= f) ≡ y
passed r x f y e g = ap (λ t. t >>= f) e ∙ g

pub opened_whole : (size : ℕ) (pages : ℕ → List ℕ) (s : Stored) (final : Net) → Stores size pages s → after s.network (groups_of s) ≡ Some final → opened_from s.header.format size pages ≡ Ok (s, final)
opened_whole size pages s final is done =
    let h = s.header in
    let net = s.network in
    let arcs_to : length s.network.arcs ≤ s.header.room = is.held.head_is.fits.arcs.1 in
    let b = begins (pages 0) (header_fields s.header) (omega arith) is.header.spelled in
    let big : 4096 ≤ size = omega (arith, is.size_is, is.header.fits.some_page) in
    let magic : (nat_le 4096 size && bytes_eq (take 8 (pages 0)) (codes "ROADMRK1") && is_open (pages 0)) ≡ true = and_true _ _ (and_true _ _ (le-leb 4096 size big) (same_bytes _ _ (ap (take 8) b.1))) is.opened in
    let head : header_in (pages 0) ≡ Some s.header = header_found (pages 0) s.header is.header in
    let sized : (size == 4096 * page_count s.header) ≡ true = eq-eqb size (4096 * page_count s.header) is.size_is in
    let one : (big_number 4 (drop 8 (pages 0)) == format_number_of s.header.format) ≡ true = eq-eqb (big_number 4 (drop 8 (pages 0))) (format_number_of s.header.format) (format_found (pages 0) s.header is.header) in
    let ends : all_spelled (λ i. arcs_in s.header.nodes (places_in_use 511 i s.header.arcs) (pages (arc_page_at i))) arc_page_at 0 (arc_pages s.header) ≡ Ok (map ends_of (take s.header.arcs s.network.arcs)) =
    all_found (λ i. arcs_in s.header.nodes (places_in_use 511 i s.header.arcs) (pages (arc_page_at i))) arc_page_at 511 (map ends_of (take s.header.arcs s.network.arcs)) (arc_pages s.header) 0
    (λ j le lt. arcs_found s.header.nodes (places_in_use 511 j s.header.arcs) (pages (arc_page_at j)) (map ends_of (part 511 j (take s.header.arcs s.network.arcs))) (omega (arith, is.header.fits.nodes_to)) (is.arcs.each j (omega arith))
    ∙ ap (λ xs. Some xs) (part-map ends_of (511 * j) 511 (take s.header.arcs s.network.arcs)))
    (omega (arith, length-map (take s.header.arcs s.network.arcs) ends_of, length-take s.header.arcs s.network.arcs)) in
    let slot : current_slot pages s.header ≡ Ok s.slot = slot_found pages s.header s.slot is.current in
    let headed : head_in s.header (pages (head_page_at s.header s.slot)) ≡ Some (head_of s) =
    head_found s.header (pages (head_page_at s.header s.slot)) (head_of s) is.header.fits is.held.head_is in
    let words : all_spelled (λ i. words_in (places_in_use 1023 i (length s.network.arcs)) (pages (word_page_at s.header s.slot i))) (word_page_at s.header s.slot) 0 (word_pages s.header) ≡ Ok (map word_of s.network.arcs) =
    all_found (λ i. words_in (places_in_use 1023 i (length s.network.arcs)) (pages (word_page_at s.header s.slot i))) (word_page_at s.header s.slot) 1023 (map word_of s.network.arcs) (word_pages s.header) 0
    (λ j le lt. words_found (places_in_use 1023 j (length s.network.arcs)) (pages (word_page_at s.header s.slot j)) (map word_of (part 1023 j s.network.arcs)) (is.held.words j (omega arith))
    ∙ ap (λ xs. Some xs) (part-map word_of (1023 * j) 1023 s.network.arcs))
    (omega (arith, length-map s.network.arcs word_of, arcs_to)) in
    let laid : all_spelled (λ i. arcs_in s.header.nodes (places_in_use 511 i (length s.network.arcs - s.header.arcs)) (pages (end_page_at s.header s.slot i))) (end_page_at s.header s.slot) 0 (end_pages s.header) ≡ Ok (map ends_of (drop s.header.arcs s.network.arcs)) =
    all_found (λ i. arcs_in s.header.nodes (places_in_use 511 i (length s.network.arcs - s.header.arcs)) (pages (end_page_at s.header s.slot i))) (end_page_at s.header s.slot) 511 (map ends_of (drop s.header.arcs s.network.arcs)) (end_pages s.header) 0
    (λ j le lt. arcs_found s.header.nodes (places_in_use 511 j (length s.network.arcs - s.header.arcs)) (pages (end_page_at s.header s.slot j)) (map ends_of (part 511 j (drop s.header.arcs s.network.arcs))) (omega (arith, is.header.fits.nodes_to)) (is.held.ends j (omega arith))
    ∙ ap (λ xs. Some xs) (part-map ends_of (511 * j) 511 (drop s.header.arcs s.network.arcs)))
    (omega (arith, length-map (drop s.header.arcs s.network.arcs) ends_of, length-drop s.header.arcs s.network.arcs, arcs_to)) in
    let all = ap (λ es. map arc_from (zip es (map word_of s.network.arcs))) (both_ends s.header.arcs s.network.arcs) ∙ arcs_joined s.network.arcs in
    let same = with_arcs s.network s.header.nodes s.header.room (map arc_from (zip (map ends_of (take s.header.arcs s.network.arcs) ++ map ends_of (drop s.header.arcs s.network.arcs)) (map word_of s.network.arcs))) (sym is.arcs.nodes_are) (sym is.arcs.room_is) all in
    let journal = ap (λ (n : Net). journal_from pages s.header s.header.journal_pages s.sequence s.version n) same
    ∙ journal_found pages s.header s.header.journal_pages s.sequence s.version s.network final s.unchecked is.journal is.few is.longest done is.versions_to in
    let stored : Net → Result (Stored × Net) Refusal = λ n. Ok (record { header = s.header; slot = s.slot; epoch = s.epoch; version = s.version; sequence = s.sequence; network = n; unchecked = s.unchecked }, final) in
    rw (magic, one, head, sized, ends, slot, headed, words, laid, journal) (ap stored same)

pub ok_same : (a b : Stored × Net) → ◌≡◌ {A = Result (Stored × Net) Refusal} (Ok a) (Ok b) → a ≡ b
ok_same a b e = cc
