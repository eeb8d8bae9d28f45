-- The fields of a slot's head.
use Rattle.std.proofs.Common.{◌≡◌, ℕ, ◌+◌, ◌^◌, ◌≤◌, ◌<◌, true, List, [], ◌∷◌, ◌++◌, length, take, drop, refl, sym, ap, subst, ◌∙◌, arith}
use Rattle.std.specs.Prelude.{nat_le, ◌&&◌}
use Rattle.std.specs.List.{flat_map, list_all, AllByRecursion}
use Rattle.std.specs.List.Sorted.{IsStrictlyIncreasing}
use Rattle.std.proofs.lemmas.List.{length-append, length-take}
use Rattle.std.proofs.lemmas.Bool.Decides.{nat_tests}
use Rattle.byteorder.specs.Endian.{big_bytes, big_number}
use Rattle.byteorder.specs.Numbers.{big_number-reads_back}
use Rattle.pages.specs.Spelling.{head_front, head_fields, AreHeadNumbersFit, AreArcsOf, IsHeader, IsHead, SpelledHead}
use Rattle.pages.specs.declared.header.Header.{Header}
use Rattle.pages.specs.declared.content.Format.{Format}
use Rattle.pages.specs.declared.content.Format.TheVariants.{One, Two}
use Rattle.pages.specs.Formats.{IsHeaderRoomFor, arcs_field, arcs_read, landmarks_at}
use Rattle.pages.specs.Contents.{Head}
use Rattle.pages.specs.Reading.{read_items}
use Rattle.pages.proofs.Padding.{begins}
use Rattle.pages.proofs.Items.{length-items, length-read, items_read}
use Rattle.pages.proofs.Places.{all_pass, pass_all}

pub length-front : (f : Format) (s : Head) → length (head_front f s) ≡ landmarks_at f
length-front One s = refl
length-front Two s = refl

pub front_few : (f : Format) → landmarks_at f ≤ 32
front_few One = omega arith
front_few Two = omega arith

pub length-fields : (f : Format) (s : Head) → length s.landmarks ≤ 1000 → length (head_fields f s) ≤ 4095
length-fields f s few = omega (arith, length-append (head_front f s) (flat_map (big_bytes 4) s.landmarks), length-front f s, front_few f, length-items (big_bytes 4) 4 (λ x. refl) s.landmarks)

-- there is room for one more landmark
pub room : (f : Format) (s : Head) (page : List ℕ) (i : ℕ) → length s.landmarks ≤ 1000 → i < length s.landmarks → page ≡ head_front f s ++ flat_map (big_bytes 4) (take i s.landmarks) → length page + 4 ≤ 4096
room f s page i few lt is = omega (arith, ap length is, length-append (head_front f s) (flat_map (big_bytes 4) (take i s.landmarks)), length-front f s, front_few f, length-items (big_bytes 4) 4 (λ x. refl) (take i s.landmarks), length-take i s.landmarks)

-- ---- tests of the landmarks

node_from : (nodes x : ℕ) → (nat_le 1 x && nat_le x nodes) ≡ true → (1 ≤ x) × (x ≤ nodes)
node_from nodes x h = (grind (arith, nat_tests), grind (arith, nat_tests))

node_to : (nodes x : ℕ) → (1 ≤ x) × (x ≤ nodes) → (nat_le 1 x && nat_le x nodes) ≡ true
node_to nodes x h = grind (arith, nat_tests)

pub are_nodes : (nodes : ℕ) (xs : List ℕ) → list_all (λ x. nat_le 1 x && nat_le x nodes) xs ≡ true → AllByRecursion (λ x. (1 ≤ x) × (x ≤ nodes)) xs
are_nodes nodes xs e = all_pass (λ x. nat_le 1 x && nat_le x nodes) (λ x. (1 ≤ x) × (x ≤ nodes)) (node_from nodes) xs e

pub nodes_are : (nodes : ℕ) (xs : List ℕ) → AllByRecursion (λ x. (1 ≤ x) × (x ≤ nodes)) xs → list_all (λ x. nat_le 1 x && nat_le x nodes) xs ≡ true
nodes_are nodes xs h = pass_all (λ x. nat_le 1 x && nat_le x nodes) (λ x. (1 ≤ x) × (x ≤ nodes)) (node_to nodes) xs h

-- ---- what is read

are_numbers : (nodes : ℕ) (xs : List ℕ) → nodes < 2 ^ 32 → AllByRecursion (λ x. (1 ≤ x) × (x ≤ nodes)) xs → AllByRecursion (λ x. x < 2 ^ 32) xs
are_numbers nodes [] lt fits = tt
are_numbers nodes (x ∷ xs) lt fits = (omega (arith, fits.0.1), are_numbers nodes xs lt fits.1)

-- what was found at the places of the numbers
pub record Found (h : Header) (page : List ℕ) (epoch version next_sequence count arcs : ℕ) : Type 0 where
  pub epoch_is : epoch ≡ big_number 8 page
  pub version_is : version ≡ big_number 8 (drop 8 page)
  pub sequence_is : next_sequence ≡ big_number 8 (drop 16 page)
  pub count_is : count ≡ big_number 4 (drop 24 page)
  pub arcs_is : arcs ≡ arcs_read h.format h.arcs (big_number 4 (drop 28 page))

with_fields : (t : Head) (a b c m : ℕ) (xs : List ℕ) → a ≡ t.epoch → b ≡ t.version → c ≡ t.next_sequence → m ≡ t.arcs → xs ≡ t.landmarks → ◌≡◌ {A = Head} (record { epoch = a; version = b; next_sequence = c; arcs = m; landmarks = xs }) t
with_fields t a b c m xs p q r w e = rw (p, q, r, w, e) refl

pub same_head : (s t : Head) → s.epoch ≡ t.epoch → s.version ≡ t.version → s.next_sequence ≡ t.next_sequence → s.arcs ≡ t.arcs → s.landmarks ≡ t.landmarks → s ≡ t
same_head s t p q r w e = with_fields t s.epoch s.version s.next_sequence s.arcs s.landmarks p q r w e

pub record ReadsAs (f : Format) (first : ℕ) (page : List ℕ) (s : Head) : Type 0 where
  pub epoch : big_number 8 page ≡ s.epoch
  pub version : big_number 8 (drop 8 page) ≡ s.version
  pub next_sequence : big_number 8 (drop 16 page) ≡ s.next_sequence
  pub count : big_number 4 (drop 24 page) ≡ length s.landmarks
  pub arcs : arcs_read f first (big_number 4 (drop 28 page)) ≡ s.arcs
  pub landmarks : read_items (big_number 4) 4 (length s.landmarks) (drop (landmarks_at f) page) ≡ s.landmarks

-- the number of arcs is read again, or is that of the header
pub arcs_back : (f : Format) (arcs room m : ℕ) → IsHeaderRoomFor f arcs room → arcs ≤ m → m ≤ room → m < 2 ^ 32 → (rest : List ℕ) → arcs_read f arcs (big_number 4 (arcs_field f m ++ rest)) ≡ m
arcs_back One arcs room m is from to lt rest = let all = is refl in omega (arith, all)
arcs_back Two arcs room m is from to lt rest = big_number-reads_back 4 m rest lt

-- what stands behind the count
behind : (f : Format) (s : Head) (rest : List ℕ) → (drop 28 (head_fields f s ++ rest) ≡ arcs_field f s.arcs ++ (flat_map (big_bytes 4) s.landmarks ++ rest)) × (drop (landmarks_at f) (head_fields f s ++ rest) ≡ flat_map (big_bytes 4) s.landmarks ++ rest)
behind One s rest = (refl, refl)
behind Two s rest = (refl, refl)

tail_of : Format → Head → List ℕ → List ℕ
tail_of f s rest = arcs_field f s.arcs ++ (flat_map (big_bytes 4) s.landmarks ++ rest)

fields_are : (f : Format) (s : Head) (rest : List ℕ) → head_fields f s ++ rest ≡ big_bytes 8 s.epoch ++ big_bytes 8 s.version ++ big_bytes 8 s.next_sequence ++ big_bytes 4 (length s.landmarks) ++ tail_of f s rest
unfolding tail_of
fields_are One s rest = refl
fields_are Two s rest = refl

fields_read : (h : Header) (s : Head) (rest : List ℕ) → IsHeader h → IsHead h s → ReadsAs h.format h.arcs (head_fields h.format s ++ rest) s
fields_read h s rest is fits =
    let f = h.format in
    let t = tail_of h.format s rest in
    let e = fields_are h.format s rest in
    let b = behind h.format s rest in record {
      epoch = ap (λ (xs : List ℕ). big_number 8 xs) e ∙ big_number-reads_back 8 s.epoch (big_bytes 8 s.version ++ big_bytes 8 s.next_sequence ++ big_bytes 4 (length s.landmarks) ++ tail_of h.format s rest) (omega (arith, fits.numbers.epoch_to, fits.numbers.sequence_to, fits.numbers.version_to));
      version = ap (λ (xs : List ℕ). big_number 8 (drop 8 xs)) e ∙ big_number-reads_back 8 s.version (big_bytes 8 s.next_sequence ++ big_bytes 4 (length s.landmarks) ++ tail_of h.format s rest) (omega (arith, fits.numbers.version_to));
      next_sequence = ap (λ (xs : List ℕ). big_number 8 (drop 16 xs)) e ∙ big_number-reads_back 8 s.next_sequence (big_bytes 4 (length s.landmarks) ++ tail_of h.format s rest) (omega (arith, fits.numbers.sequence_to, fits.numbers.version_to));
      count = ap (λ (xs : List ℕ). big_number 4 (drop 24 xs)) e ∙ big_number-reads_back 4 (length s.landmarks) (tail_of h.format s rest) (omega (arith, fits.numbers.count_to));
      arcs = ap (λ (xs : List ℕ). arcs_read h.format h.arcs (big_number 4 xs)) b.0 ∙ arcs_back h.format h.arcs h.room s.arcs is.room_fits fits.arcs.0 fits.arcs.1 (omega (arith, fits.arcs.1, is.room_to)) (flat_map (big_bytes 4) s.landmarks ++ rest);
      landmarks = ap (read_items (big_number 4) 4 (length s.landmarks)) b.1
          ∙ items_read (λ x. x < 2 ^ 32) (big_number 4) (big_bytes 4) 4 (λ x. refl) (λ x lt. big_number-reads_back 4 x [] lt) s.landmarks rest (are_numbers h.nodes s.landmarks (omega (arith, is.nodes_to)) fits.each);
    }

pub head_read : (h : Header) (page : List ℕ) (s : Head) → IsHeader h → SpelledHead h page s → ReadsAs h.format h.arcs page s
head_read h page s is spells =
    let b = begins page (head_fields h.format s) (length-fields h.format s spells.fits.numbers.count_to) spells.spelled in
    rw b.1 (fields_read h s b.0 is spells.fits)

fit_as : (t : Head) (a b c n : ℕ) → a ≡ t.epoch → b ≡ t.version → c ≡ t.next_sequence → n ≡ length t.landmarks → AreHeadNumbersFit t.epoch t.version t.next_sequence (length t.landmarks) → AreHeadNumbersFit a b c n
fit_as t a b c n p q r e h = rw (p, q, r, e) h

-- the numbers that are found where a head is spelled are fit
pub found_fit : (h : Header) (page : List ℕ) (a b c n m : ℕ) (s : Head) → IsHeader h → Found h page a b c n m → SpelledHead h page s → AreHeadNumbersFit a b c n
found_fit h page a b c n m s ok is spells =
    let r = head_read h page s ok spells in
    fit_as s a b c n (is.epoch_is ∙ r.epoch) (is.version_is ∙ r.version) (is.sequence_is ∙ r.next_sequence) (is.count_is ∙ r.count) spells.fits.numbers

pub found_arcs : (h : Header) (page : List ℕ) (a b c n m : ℕ) (s : Head) → IsHeader h → Found h page a b c n m → SpelledHead h page s → AreArcsOf h m
found_arcs h page a b c n m s ok is spells = let r = head_read h page s ok spells in subst (AreArcsOf h) (sym (is.arcs_is ∙ r.arcs)) spells.fits.arcs

-- the landmarks that are found there are the head's
pub found_landmarks : (h : Header) (page : List ℕ) (a b c n m : ℕ) (xs : List ℕ) (s : Head) → IsHeader h → Found h page a b c n m → xs ≡ read_items (big_number 4) 4 n (drop (landmarks_at h.format) page) → SpelledHead h page s → xs ≡ s.landmarks
found_landmarks h page a b c n m xs s ok is are spells =
    let r = head_read h page s ok spells in
    are ∙ ap (λ (k : ℕ). read_items (big_number 4) 4 k (drop (landmarks_at h.format) page)) (is.count_is ∙ r.count) ∙ r.landmarks

pub found_is : (h : Header) (page : List ℕ) (a b c n m : ℕ) (xs : List ℕ) (s : Head) → IsHeader h → Found h page a b c n m → xs ≡ read_items (big_number 4) 4 n (drop (landmarks_at h.format) page) → SpelledHead h page s
    → ◌≡◌ {A = Head} (record { epoch = a; version = b; next_sequence = c; arcs = m; landmarks = xs }) s
found_is h page a b c n m xs s ok is are spells =
    let r = head_read h page s ok spells in
    with_fields s a b c m xs (is.epoch_is ∙ r.epoch) (is.version_is ∙ r.version) (is.sequence_is ∙ r.next_sequence) (is.arcs_is ∙ r.arcs) (found_landmarks h page a b c n m xs s ok is are spells)

-- what is found is a head where its parts are fit
pub found_head : (h : Header) (a b c n m : ℕ) (xs bytes : List ℕ) → AreHeadNumbersFit a b c n → AreArcsOf h m → xs ≡ read_items (big_number 4) 4 n bytes → IsStrictlyIncreasing xs → list_all (λ x. nat_le 1 x && nat_le x h.nodes) xs ≡ true
    → IsHead h (record { epoch = a; version = b; next_sequence = c; arcs = m; landmarks = xs })
found_head h a b c n m xs bytes fit arcs are ascends pass =
    let count : length xs ≡ n = ap length are ∙ length-read (big_number 4) 4 n bytes in
    record { numbers = subst (AreHeadNumbersFit a b c) (sym count) fit; arcs = arcs; ascending = ascends; each = are_nodes h.nodes xs pass }

pub head_once : (h : Header) (page : List ℕ) (s t : Head) → IsHeader h → SpelledHead h page s → SpelledHead h page t → s ≡ t
head_once h page s t ok hs ht =
    let p = head_read h page s ok hs in
    let q = head_read h page t ok ht in
    same_head s t (sym p.epoch ∙ q.epoch) (sym p.version ∙ q.version) (sym p.next_sequence ∙ q.next_sequence) (sym p.arcs ∙ q.arcs)
    (sym p.landmarks ∙ ap (λ (k : ℕ). read_items (big_number 4) 4 k (drop (landmarks_at h.format) page)) (sym p.count ∙ q.count) ∙ q.landmarks)
