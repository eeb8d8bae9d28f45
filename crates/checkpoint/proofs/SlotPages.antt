-- What a file holds, and what a stop leaves of it, while the pages of a slot are written.
use Rattle.std.proofs.Common.{◌≡◌, ◌≢◌, ◌⊎◌, inl, inr, ⊎_elim, ℕ, ◌+◌, ◌-◌, ◌*◌, ◌<◌, ◌≤◌, List, [], ◌∷◌, ◌++◌, length, get_or, take, drop, refl, sym, ◌∙◌, ap, subst, arith, append_assoc, length-take}
use Rattle.std.proofs.lemmas.Bool.{cases_lt}
use Rattle.std.proofs.lemmas.List.{ext_get_or, get_or-take, drop-drop}
use borrow.Rule.Slice.PartMut.{put_mid}
use Rattle.disk.specs.Contents.{overwritten, Torn, Follows}
use Rattle.disk.specs.Gated.{SameOutside, IsShutOrOpened}
use Rattle.disk.specs.Moments.{Elapses, LeavesOnly}
use Rattle.disk.proofs.Gates.{outside_torn, outside_wider, outside_twice, shut_twice, body_torn}
use Rattle.disk.proofs.Overwritten.{length-overwritten, overwritten_inside, overwritten_torn}
use Rattle.disk.proofs.Steps.{started, goes_on, and_then}
use Rattle.roadnet.specs.Net.{Net}
use Rattle.pages.specs.declared.header.Header.{Header}
use Rattle.pages.specs.declared.content.Slot.{Slot}
use Rattle.pages.specs.declared.content.Slot.TheVariants.{A, B}
use Rattle.pages.specs.declared.content.Format.{Format}
use Rattle.pages.specs.Contents.{Head}
use Rattle.pages.specs.Spelling.{body, head_fields, head_page}
use Rattle.pages.specs.Layout.{HeadOf, slot_pages, page_number, page_count}
use Rattle.pages.proofs.Heads.{length-fields}
use Rattle.storefile.specs.StoreFile.{page, part}
use Rattle.storefile.proofs.Meaning.{length-page_of, length-body}
use Rattle.storefile.proofs.PageBytes.{page_byte, page_length, outside_pages, same_but, written_outside, written_page, gate_pages, gate_body, gate_opens}
use Rattle.checkpoint.specs.Writing.{Draft, draft_head_of, slot_at, slot_size, slot_gate, slot_page, slot_page_at, HoldsPages, IsSlotShut, LeavesSlotShut, IsSlotWhole, IsSlotShutOrWhole}

-- ---- places

-- a slot lies within the file
pub slot_within : (h : Header) (slot : Slot) → page_number h (HeadOf slot) + (slot_pages h + 1) ≤ page_count h
slot_within h A = omega arith
slot_within h B = omega arith

-- bytes of a slot that have not its gate among them
pub record AreBesideGate (h : Header) (slot : Slot) (from count : ℕ) : Type 0 where
  pub low : slot_at h slot ≤ from
  pub high : from + count ≤ slot_at h slot + slot_size h
  pub beside : (slot_gate h slot < from) ⊎ (from + count ≤ slot_gate h slot)

pub words_beside : (h : Header) (slot : Slot) (first count : ℕ) → 4096 * first + count ≤ 4096 * slot_pages h → AreBesideGate h slot (4096 * slot_page_at h slot first) count
words_beside h slot first count fits = record { low = omega arith; high = omega (arith, fits); beside = inl (omega arith) }

pub head_beside : (h : Header) (slot : Slot) (count : ℕ) → count ≤ 4095 → AreBesideGate h slot (slot_at h slot) count
head_beside h slot count fits = record { low = omega arith; high = omega (arith, fits); beside = inr (omega (arith, fits)) }

-- ---- what a stop leaves

module _ (h : Header) (slot : Slot) where
  -- contents that are each the old one but for this slot
  shut_back : (old new c : List ℕ) → IsSlotShut h slot old new → IsSlotShut h slot old c → IsSlotShut h slot new c
  shut_back old new c first second = record {
    outside = record {
      same_length = second.outside.same_length ∙ sym first.outside.same_length;
      below = λ i lt. second.outside.below i lt ∙ sym (first.outside.below i lt);
      above = λ i ge. second.outside.above i ge ∙ sym (first.outside.above i ge);
    };
    closed = second.closed;
  }

  -- one after the other
  pub then_shut : (old mid c : List ℕ) → IsSlotShut h slot old mid → IsSlotShut h slot mid c → IsSlotShut h slot old c
  then_shut old mid c first second = record { outside = outside_twice (slot_at h slot) (slot_size h) old mid c first.outside second.outside; closed = second.closed }

  pub then_whole : (head : Head) (net : Net) (old mid c : List ℕ) → IsSlotShut h slot old mid → IsSlotWhole h slot head net mid c → IsSlotWhole h slot head net old c
  then_whole head net old mid c first second = record {
    outside = outside_twice (slot_at h slot) (slot_size h) old mid c first.outside second.outside;
    opened = second.opened;
    head_is = second.head_is;
    pages = second.pages;
  }

  torn_shut : (old mid c : List ℕ) (from count : ℕ) → length old ≡ 4096 * page_count h → AreBesideGate h slot from count → IsSlotShut h slot old mid → Torn from count mid c → IsSlotShut h slot old c
  torn_shut old mid c from count whole place shut torn =
      body_torn (slot_at h slot) (slot_size h) (slot_gate h slot) from count old mid c (omega (arith, whole, slot_within h slot)) place.low place.high place.beside shut torn

  -- a write beside the gate: at its moments, and after it
  pub record HasWritten {D : Type 0} (content : D → List ℕ) (left : D → List ℕ → Type 0) (moment : D → ℕ) (left_since : D → ℕ → List ℕ → Type 0) (old new : D) : Type 0 where
    pub meanwhile : LeavesOnly moment left_since old new (IsSlotShut h slot (content old))
    pub now_shut : IsSlotShut h slot (content old) (content new)
    pub left_shut : LeavesSlotShut h slot (content new) (left new)

  pub has_written : {D : Type 0} (content : D → List ℕ) (left : D → List ℕ → Type 0) (moment : D → ℕ) (left_since : D → ℕ → List ℕ → Type 0) (old new : D) (from count : ℕ)
      → length (content old) ≡ 4096 * page_count h → AreBesideGate h slot from count → LeavesSlotShut h slot (content old) (left old)
      → Follows (Torn from count) (left old) (left new) → Elapses (moment old) (moment new) (left_since old) (left_since new) (left new)
      → ((c : List ℕ) → left_since old (moment old) c → left old c) → left new (content new)
      → HasWritten content left moment left_since old new
  has_written content left moment left_since old new from count whole place shut follows time only now =
      let P : List ℕ → Type 0 = IsSlotShut h slot (content old) in
      let after : (c : List ℕ) → left new c → IsSlotShut h slot (content old) c = λ c was. let was_left = follows c was in torn_shut (content old) was_left.0 c from count whole place (shut was_left.0 was_left.1) was_left.2 in
      record {
        meanwhile = goes_on moment left_since old old new P (left new) (started moment left_since old P (λ c since. shut c (only c since))) time after;
        now_shut = after (content new) now;
        left_shut = λ c was. shut_back (content old) (content new) c (after (content new) now) (after c was);
      }

-- ---- the parts of a checkpoint, one after the other

-- From old to new so many word pages were written, and the slot's gate is closed.
pub record IsGoing {D : Type 0} (content : D → List ℕ) (left : D → List ℕ → Type 0) (moment : D → ℕ) (left_since : D → ℕ → List ℕ → Type 0) (h : Header) (slot : Slot) (net : Net) (old new : D) (written : ℕ) : Type 0 where
  pub meanwhile : LeavesOnly moment left_since old new (IsSlotShut h slot (content old))
  pub now_shut : IsSlotShut h slot (content old) (content new)
  pub left_shut : LeavesSlotShut h slot (content new) (left new)
  pub words : HoldsPages (page (content new)) h slot net written

module _ {D : Type 0} (content : D → List ℕ) (left : D → List ℕ → Type 0) (moment : D → ℕ) (left_since : D → ℕ → List ℕ → Type 0) (h : Header) (slot : Slot) (net : Net) where
  pub going_starts : (old : D) (written : ℕ) → LeavesSlotShut h slot (content old) (left old) → HoldsPages (page (content old)) h slot net written
      → ((c : List ℕ) → left_since old (moment old) c → left old c) → left old (content old) → IsGoing content left moment left_since h slot net old old written
  going_starts old written shut words only now = record {
    meanwhile = started moment left_since old (IsSlotShut h slot (content old)) (λ c since. shut c (only c since));
    now_shut = shut (content old) now;
    left_shut = shut;
    words = words;
  }

  pub going_on : (old mid new : D) (written more : ℕ) → IsGoing content left moment left_since h slot net old mid written → LeavesOnly moment left_since mid new (IsSlotShut h slot (content mid))
      → IsSlotShut h slot (content mid) (content new) → LeavesSlotShut h slot (content new) (left new) → HoldsPages (page (content new)) h slot net more → IsGoing content left moment left_since h slot net old new more
  going_on old mid new written more going run now shut words = record {
    meanwhile = and_then moment left_since old mid new (IsSlotShut h slot (content old)) (IsSlotShut h slot (content mid)) going.meanwhile run (λ c shut_there. then_shut h slot (content old) (content mid) c going.now_shut shut_there);
    now_shut = then_shut h slot (content old) (content mid) (content new) going.now_shut now;
    left_shut = shut;
    words = words;
  }

  -- a part that failed
  pub going_fails : (old mid new : D) (written : ℕ) → IsGoing content left moment left_since h slot net old mid written → LeavesOnly moment left_since mid new (IsSlotShut h slot (content mid))
      → LeavesOnly moment left_since old new (IsSlotShut h slot (content old))
  going_fails old mid new written going run =
      and_then moment left_since old mid new (IsSlotShut h slot (content old)) (IsSlotShut h slot (content mid)) going.meanwhile run (λ c shut_there. then_shut h slot (content old) (content mid) c going.now_shut shut_there)

-- ---- a page of the buffer

pub length-part : {X : Type 0} (places i : ℕ) (xs : List X) → length (part places i xs) ≤ places
length-part places i xs = omega (arith, length-take places (drop (places * i) xs))

put_overwritten : (at n : ℕ) (xs ys : List ℕ) → n ≡ length ys → put_mid at n xs ys ≡ overwritten xs at ys
put_overwritten at n xs ys is =
    ap (λ (zs : List ℕ). take at xs ++ (ys ++ zs)) (drop-drop n at xs ∙ ap (λ (m : ℕ). drop (at + m) xs) is) ∙ sym (append_assoc (take at xs) ys (drop (at + length ys) xs))

-- what is put at the place of a page
pub record IsPut (k : ℕ) (old new p : List ℕ) : Type 0 where
  pub here : page new k ≡ p
  pub others : (j : ℕ) → j ≢ k → page new j ≡ page old j
  pub same_length : length new ≡ length old

pub page_put : (k n : ℕ) (old p q : List ℕ) → 4096 * k + 4096 ≤ length old → n ≡ 4096 → p ≡ q → length q ≡ 4096 → IsPut k old (put_mid (4096 * k) n old p) q
page_put k n old p q fits count is size =
    let e : put_mid (4096 * k) n old p ≡ overwritten old (4096 * k) q = ap (λ (xs : List ℕ). put_mid (4096 * k) n old xs) is ∙ put_overwritten (4096 * k) n old q (omega (arith, count, size)) in
    subst (λ (new : List ℕ). IsPut k old new q) (sym e) (record {
      here = written_page k old q fits size;
      others = same_but k old (overwritten old (4096 * k) q) (written_outside k old q fits size);
      same_length = (written_outside k old q fits size).same_length;
    })

-- ---- word pages

-- a page that is written among others
page_among : (old bytes : List ℕ) (k n j : ℕ) → 4096 * (k + n) ≤ length old → length bytes ≡ 4096 * n → j < n → page (overwritten old (4096 * k) bytes) (k + j) ≡ page bytes j
page_among old bytes k n j fits size lt =
    let place : 4096 * k ≤ length old = omega (arith, fits) in
    let long = length-overwritten old bytes (4096 * k) place in
    let here : length (page (overwritten old (4096 * k) bytes) (k + j)) ≡ 4096 = page_length (overwritten old (4096 * k) bytes) (k + j) (omega (arith, long, fits, lt)) in
    let there : length (page bytes j) ≡ 4096 = page_length bytes j (omega (arith, size, lt)) in
    ext_get_or 0 (page (overwritten old (4096 * k) bytes) (k + j)) (page bytes j) (omega (arith, here, there))
    (λ i below.
    let within : i < 4096 = omega (arith, here) in
    let at : 4096 * (k + j) + i ≡ 4096 * k + (4096 * j + i) = omega arith in
    page_byte (overwritten old (4096 * k) bytes) (k + j) i within ∙ ap (λ (m : ℕ). get_or (overwritten old (4096 * k) bytes) m 0) at
    ∙ overwritten_inside old bytes (4096 * k) place (4096 * j + i) (omega (arith, size, lt)) ∙ sym (page_byte bytes j i within))

-- the other pages stay
page_beside : (old bytes : List ℕ) (k n j : ℕ) → 4096 * (k + n) ≤ length old → length bytes ≡ 4096 * n → (j < k) ⊎ (k + n ≤ j) → page (overwritten old (4096 * k) bytes) j ≡ page old j
page_beside old bytes k n j fits size beside =
    let place : 4096 * k ≤ length old = omega (arith, fits) in
    let torn : Torn (4096 * k) (length bytes) old (overwritten old (4096 * k) bytes) = overwritten_torn old bytes (4096 * k) place in
    let outside : SameOutside (4096 * k) (4096 * n) old (overwritten old (4096 * k) bytes) =
    outside_torn (4096 * k) (4096 * n) old (overwritten old (4096 * k) bytes) (omega (arith, fits)) (subst (λ (m : ℕ). Torn (4096 * k) m old (overwritten old (4096 * k) bytes)) size torn) in
    outside_pages k n old (overwritten old (4096 * k) bytes) outside j beside

-- a page of the front of a buffer
page_of_front : (buffer : List ℕ) (n j : ℕ) → 4096 * n ≤ length buffer → j < n → page (take (4096 * n) buffer) j ≡ page buffer j
page_of_front buffer n j room lt =
    let cut : length (take (4096 * n) buffer) ≡ 4096 * n = omega (arith, length-take (4096 * n) buffer, room) in
    let here : length (page (take (4096 * n) buffer) j) ≡ 4096 = page_length (take (4096 * n) buffer) j (omega (arith, cut, lt)) in
    let there : length (page buffer j) ≡ 4096 = page_length buffer j (omega (arith, room, lt)) in
    ext_get_or 0 (page (take (4096 * n) buffer) j) (page buffer j) (omega (arith, here, there))
    (λ i below.
    let within : i < 4096 = omega (arith, here) in
    page_byte (take (4096 * n) buffer) j i within ∙ get_or-take (4096 * n) buffer (4096 * j + i) 0 (omega (arith, lt)) ∙ sym (page_byte buffer j i within))

-- so many word pages more
pub more_words : (h : Header) (slot : Slot) (net : Net) (old new buffer : List ℕ) (written count : ℕ) → length old ≡ 4096 * page_count h → written + count ≤ slot_pages h → 4096 * count ≤ length buffer
    → HoldsPages (page old) h slot net written → ((i : ℕ) → i < count → page buffer i ≡ slot_page h net (written + i))
    → new ≡ overwritten old (4096 * slot_page_at h slot written) (take (4096 * count) buffer) → HoldsPages (page new) h slot net (written + count)
more_words h slot net old new buffer written count whole few room held put is i lt =
    let k : ℕ = slot_page_at h slot written in
    let bytes : List ℕ = take (4096 * count) buffer in
    let size : length (take (4096 * count) buffer) ≡ 4096 * count = omega (arith, length-take (4096 * count) buffer, room) in
    let fits : 4096 * (slot_page_at h slot written + count) ≤ length old = omega (arith, whole, few, slot_within h slot) in
    ap (λ (file : List ℕ). page file (slot_page_at h slot i)) is ∙ ⊎_elim
    (λ before. page_beside old (take (4096 * count) buffer) (slot_page_at h slot written) count (slot_page_at h slot i) fits size (inl (omega arith)) ∙ held i before)
    (λ from.
    let at : slot_page_at h slot i ≡ slot_page_at h slot written + (i - written) = omega arith in
    let same : written + (i - written) ≡ i = omega arith in
    ap (page (overwritten old (4096 * slot_page_at h slot written) (take (4096 * count) buffer))) at
    ∙ page_among old (take (4096 * count) buffer) (slot_page_at h slot written) count (i - written) fits size (omega arith)
    ∙ page_of_front buffer count (i - written) room (omega arith) ∙ put (i - written) (omega arith) ∙ ap (slot_page h net) same)
    (cases_lt i written)

-- ---- the head, and the gate behind it

pub head_body_length : (f : Format) (head : Head) → length head.landmarks ≤ 1000 → length (body (head_page f head)) ≡ 4095
head_body_length f head few = length-body (head_page f head) (length-page_of (head_fields f head) (omega (arith, length-fields f head few)))

module _ (h : Header) (slot : Slot) (head : Head) (net : Net) (old mid b : List ℕ) (whole : length old ≡ 4096 * page_count h) (long : length b ≡ 4095) (is : mid ≡ overwritten old (slot_at h slot) b) where
  abbrev number : ℕ
  number = page_number h (HeadOf slot)

  fits : 4096 * number + 4096 ≤ length old
  fits = omega (arith, whole, slot_within h slot)

  place : 4096 * number ≤ length old
  place = omega (arith, fits)

  torn : Torn (4096 * number) (length b) old (overwritten old (4096 * number) b)
  torn = overwritten_torn old b (4096 * number) place

  head_outside : SameOutside (4096 * number) 4096 old mid
  head_outside = subst (λ (d : List ℕ). SameOutside (4096 * number) 4096 old d) (sym is)
      (outside_wider (4096 * number) (length b) (4096 * number) 4096 old (overwritten old (4096 * number) b) (omega arith) (omega (arith, long))
      (outside_torn (4096 * number) (length b) old (overwritten old (4096 * number) b) (omega (arith, fits, long)) torn))

  mid_fits : 4096 * number + 4096 ≤ length mid
  mid_fits = omega (arith, fits, head_outside.same_length)

  abbrev last : List ℕ
  last = overwritten mid (slot_gate h slot) (165 ∷ [])

  gate_outside : SameOutside (slot_at h slot) (slot_size h) mid last
  gate_outside = outside_wider (slot_gate h slot) 1 (slot_at h slot) (slot_size h) mid last (omega arith) (omega arith)
      (outside_torn (slot_gate h slot) 1 mid last (omega (arith, mid_fits)) (overwritten_torn mid (165 ∷ []) (slot_gate h slot) (omega (arith, mid_fits))))

  all_outside : SameOutside (slot_at h slot) (slot_size h) old last
  all_outside = outside_twice (slot_at h slot) (slot_size h) old mid last (outside_wider (4096 * number) 4096 (slot_at h slot) (slot_size h) old mid (omega arith) (omega arith) head_outside) gate_outside

  head_written : body (page mid number) ≡ b
  head_written =
      let one : length (page mid number) ≡ 4096 = page_length mid number mid_fits in
      let cut = length-take 4095 (page mid number) in
      ext_get_or 0 (body (page mid number)) b (omega (arith, one, cut, long)) (λ i lt.
      let below : i < 4095 = omega (arith, cut, one) in
      get_or-take 4095 (page mid number) i 0 below ∙ page_byte mid number i (omega arith) ∙ ap (λ (d : List ℕ). get_or d (4096 * number + i) 0) is
      ∙ overwritten_inside old b (4096 * number) place i (omega (arith, long)))

  -- the words stay
  words_stay : HoldsPages (page old) h slot net (slot_pages h) → HoldsPages (page last) h slot net (slot_pages h)
  words_stay held i lt =
      gate_pages number mid mid_fits (slot_page_at h slot i) (λ e. omega (arith, e))
      ∙ same_but number old mid head_outside (slot_page_at h slot i) (λ e. omega (arith, e)) ∙ held i lt

  -- the slot is whole
  pub now_whole : b ≡ body (head_page h.format head) → HoldsPages (page old) h slot net (slot_pages h) → IsSlotWhole h slot head net old last
  now_whole spells held = record {
    outside = all_outside;
    opened = gate_opens number mid mid_fits;
    head_is = gate_body number mid mid_fits ∙ head_written ∙ spells;
    pages = words_stay held;
  }

  -- the gate is torn on its way to open
  pub while_opening : b ≡ body (head_page h.format head) → HoldsPages (page old) h slot net (slot_pages h) → IsSlotShut h slot old mid → (c : List ℕ) → IsShutOrOpened mid (slot_gate h slot) c → IsSlotShutOrWhole h slot head net old c
  while_opening spells held shut c way = ⊎_elim
      (λ still. inl (shut_twice (slot_at h slot) (slot_size h) (slot_gate h slot) old mid c (omega arith) (omega arith) shut.outside still))
      (λ opened. inr (subst (λ (d : List ℕ). IsSlotWhole h slot head net old d) (sym opened) (now_whole spells held)))
      way

-- the head's page, by what is told of the network
pub same_head_page : (f : Format) (d : Draft) (net : Net) (n : ℕ) (xs : List ℕ) → n ≡ length net.arcs → xs ≡ net.landmarks
    → head_page f (record { epoch = d.epoch; version = d.version; next_sequence = d.next_sequence; arcs = n; landmarks = xs }) ≡ head_page f (draft_head_of d net)
same_head_page f d net n xs p q = rw (p, q) refl
