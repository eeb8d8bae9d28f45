-- The parts of a file are disjoint and fill it.
use Rattle.std.proofs.Common.{◌≡◌, ℕ, ◌+◌, ◌-◌, ◌*◌, ◌<◌, refl, sym, ap, ◌∙◌, arith, inl, inr}
use Rattle.std.proofs.lemmas.Bool.{cases_lt}
use Rattle.pages.specs.declared.header.Header.{Header}
use Rattle.pages.specs.declared.content.Format.{Format}
use Rattle.pages.specs.declared.content.Format.TheVariants.{One}
use Rattle.pages.specs.declared.content.Slot.TheVariants.{A, B}
use Rattle.pages.specs.Formats.{IsHeaderRoomFor}
use Rattle.pages.specs.Spelling.{IsHeader}
use Rattle.pages.specs.Layout.{Part, Front, Arcs, HeadOf, Words, EndsOf, Journal, IsPart, arc_pages, word_pages, end_pages, page_number, page_count, pages_for}

-- the same with so many arc pages, word pages, end pages and journal pages
abbrev Within : ℕ → ℕ → ℕ → ℕ → Part → Type 0
Within a w e j Front = Unit {0}
Within a w e j (Arcs i) = i < a
Within a w e j (HeadOf slot) = Unit {0}
Within a w e j (Words slot i) = i < w
Within a w e j (EndsOf slot i) = i < e
Within a w e j (Journal place) = place < j

abbrev number : ℕ → ℕ → ℕ → Part → ℕ
number a w e Front = 0
number a w e (Arcs i) = 1 + i
number a w e (HeadOf A) = a + 1
number a w e (HeadOf B) = a + (w + e) + 2
number a w e (Words A i) = a + 1 + 1 + i
number a w e (Words B i) = a + (w + e) + 2 + 1 + i
number a w e (EndsOf A i) = a + 1 + 1 + w + i
number a w e (EndsOf B i) = a + (w + e) + 2 + 1 + w + i
number a w e (Journal place) = a + 2 * (w + e) + 3 + place

below : (a w e j : ℕ) (p : Part) → Within a w e j p → number a w e p < a + 2 * (w + e) + 3 + j
below a w e j Front is = omega arith
below a w e j (Arcs i) is = omega arith
below a w e j (HeadOf A) is = omega arith
below a w e j (HeadOf B) is = omega arith
below a w e j (Words A i) is = omega arith
below a w e j (Words B i) is = omega arith
below a w e j (EndsOf A i) is = omega arith
below a w e j (EndsOf B i) is = omega arith
below a w e j (Journal i) is = omega arith

apart : (a w e j : ℕ) (p q : Part) → Within a w e j p → Within a w e j q → number a w e p ≡ number a w e q → p ≡ q
apart a w e j Front Front hp hq is = refl
apart a w e j Front (Arcs k) hp hq is = absurd (omega arith)
apart a w e j Front (HeadOf A) hp hq is = absurd (omega arith)
apart a w e j Front (HeadOf B) hp hq is = absurd (omega arith)
apart a w e j Front (Words A k) hp hq is = absurd (omega arith)
apart a w e j Front (Words B k) hp hq is = absurd (omega arith)
apart a w e j Front (EndsOf A k) hp hq is = absurd (omega arith)
apart a w e j Front (EndsOf B k) hp hq is = absurd (omega arith)
apart a w e j Front (Journal k) hp hq is = absurd (omega arith)
apart a w e j (Arcs i) Front hp hq is = absurd (omega arith)
apart a w e j (Arcs i) (Arcs k) hp hq is = let same : i ≡ k = omega arith in ap (λ (n : ℕ). Arcs n) same
apart a w e j (Arcs i) (HeadOf A) hp hq is = absurd (omega arith)
apart a w e j (Arcs i) (HeadOf B) hp hq is = absurd (omega arith)
apart a w e j (Arcs i) (Words A k) hp hq is = absurd (omega arith)
apart a w e j (Arcs i) (Words B k) hp hq is = absurd (omega arith)
apart a w e j (Arcs i) (EndsOf A k) hp hq is = absurd (omega arith)
apart a w e j (Arcs i) (EndsOf B k) hp hq is = absurd (omega arith)
apart a w e j (Arcs i) (Journal k) hp hq is = absurd (omega arith)
apart a w e j (HeadOf A) Front hp hq is = absurd (omega arith)
apart a w e j (HeadOf A) (Arcs k) hp hq is = absurd (omega arith)
apart a w e j (HeadOf A) (HeadOf A) hp hq is = refl
apart a w e j (HeadOf A) (HeadOf B) hp hq is = absurd (omega arith)
apart a w e j (HeadOf A) (Words A k) hp hq is = absurd (omega arith)
apart a w e j (HeadOf A) (Words B k) hp hq is = absurd (omega arith)
apart a w e j (HeadOf A) (EndsOf A k) hp hq is = absurd (omega arith)
apart a w e j (HeadOf A) (EndsOf B k) hp hq is = absurd (omega arith)
apart a w e j (HeadOf A) (Journal k) hp hq is = absurd (omega arith)
apart a w e j (HeadOf B) Front hp hq is = absurd (omega arith)
apart a w e j (HeadOf B) (Arcs k) hp hq is = absurd (omega arith)
apart a w e j (HeadOf B) (HeadOf A) hp hq is = absurd (omega arith)
apart a w e j (HeadOf B) (HeadOf B) hp hq is = refl
apart a w e j (HeadOf B) (Words A k) hp hq is = absurd (omega arith)
apart a w e j (HeadOf B) (Words B k) hp hq is = absurd (omega arith)
apart a w e j (HeadOf B) (EndsOf A k) hp hq is = absurd (omega arith)
apart a w e j (HeadOf B) (EndsOf B k) hp hq is = absurd (omega arith)
apart a w e j (HeadOf B) (Journal k) hp hq is = absurd (omega arith)
apart a w e j (Words A i) Front hp hq is = absurd (omega arith)
apart a w e j (Words A i) (Arcs k) hp hq is = absurd (omega arith)
apart a w e j (Words A i) (HeadOf A) hp hq is = absurd (omega arith)
apart a w e j (Words A i) (HeadOf B) hp hq is = absurd (omega arith)
apart a w e j (Words A i) (Words A k) hp hq is = let same : i ≡ k = omega arith in ap (λ (n : ℕ). Words A n) same
apart a w e j (Words A i) (Words B k) hp hq is = absurd (omega arith)
apart a w e j (Words A i) (EndsOf A k) hp hq is = absurd (omega arith)
apart a w e j (Words A i) (EndsOf B k) hp hq is = absurd (omega arith)
apart a w e j (Words A i) (Journal k) hp hq is = absurd (omega arith)
apart a w e j (Words B i) Front hp hq is = absurd (omega arith)
apart a w e j (Words B i) (Arcs k) hp hq is = absurd (omega arith)
apart a w e j (Words B i) (HeadOf A) hp hq is = absurd (omega arith)
apart a w e j (Words B i) (HeadOf B) hp hq is = absurd (omega arith)
apart a w e j (Words B i) (Words A k) hp hq is = absurd (omega arith)
apart a w e j (Words B i) (Words B k) hp hq is = let same : i ≡ k = omega arith in ap (λ (n : ℕ). Words B n) same
apart a w e j (Words B i) (EndsOf A k) hp hq is = absurd (omega arith)
apart a w e j (Words B i) (EndsOf B k) hp hq is = absurd (omega arith)
apart a w e j (Words B i) (Journal k) hp hq is = absurd (omega arith)
apart a w e j (EndsOf A i) Front hp hq is = absurd (omega arith)
apart a w e j (EndsOf A i) (Arcs k) hp hq is = absurd (omega arith)
apart a w e j (EndsOf A i) (HeadOf A) hp hq is = absurd (omega arith)
apart a w e j (EndsOf A i) (HeadOf B) hp hq is = absurd (omega arith)
apart a w e j (EndsOf A i) (Words A k) hp hq is = absurd (omega arith)
apart a w e j (EndsOf A i) (Words B k) hp hq is = absurd (omega arith)
apart a w e j (EndsOf A i) (EndsOf A k) hp hq is = let same : i ≡ k = omega arith in ap (λ (n : ℕ). EndsOf A n) same
apart a w e j (EndsOf A i) (EndsOf B k) hp hq is = absurd (omega arith)
apart a w e j (EndsOf A i) (Journal k) hp hq is = absurd (omega arith)
apart a w e j (EndsOf B i) Front hp hq is = absurd (omega arith)
apart a w e j (EndsOf B i) (Arcs k) hp hq is = absurd (omega arith)
apart a w e j (EndsOf B i) (HeadOf A) hp hq is = absurd (omega arith)
apart a w e j (EndsOf B i) (HeadOf B) hp hq is = absurd (omega arith)
apart a w e j (EndsOf B i) (Words A k) hp hq is = absurd (omega arith)
apart a w e j (EndsOf B i) (Words B k) hp hq is = absurd (omega arith)
apart a w e j (EndsOf B i) (EndsOf A k) hp hq is = absurd (omega arith)
apart a w e j (EndsOf B i) (EndsOf B k) hp hq is = let same : i ≡ k = omega arith in ap (λ (n : ℕ). EndsOf B n) same
apart a w e j (EndsOf B i) (Journal k) hp hq is = absurd (omega arith)
apart a w e j (Journal i) Front hp hq is = absurd (omega arith)
apart a w e j (Journal i) (Arcs k) hp hq is = absurd (omega arith)
apart a w e j (Journal i) (HeadOf A) hp hq is = absurd (omega arith)
apart a w e j (Journal i) (HeadOf B) hp hq is = absurd (omega arith)
apart a w e j (Journal i) (Words A k) hp hq is = absurd (omega arith)
apart a w e j (Journal i) (Words B k) hp hq is = absurd (omega arith)
apart a w e j (Journal i) (EndsOf A k) hp hq is = absurd (omega arith)
apart a w e j (Journal i) (EndsOf B k) hp hq is = absurd (omega arith)
apart a w e j (Journal i) (Journal k) hp hq is = let same : i ≡ k = omega arith in ap (λ (n : ℕ). Journal n) same

filled : (a w e j k : ℕ) → k < a + 2 * (w + e) + 3 + j → (p : Part) × Within a w e j p × (number a w e p ≡ k)
filled a w e j k lt =
    elim (cases_lt k 1) [
      | inl h ↦ (Front, tt, omega arith)
      | inr h ↦ elim (cases_lt k (a + 1)) [
        | inl g ↦ (Arcs (k - 1), omega arith, omega arith)
        | inr g ↦ elim (cases_lt k (a + 2)) [
          | inl f ↦ (HeadOf A, tt, omega arith)
          | inr f ↦ elim (cases_lt k (a + w + 2)) [
            | inl d ↦ (Words A (k - (a + 2)), omega arith, omega arith)
            | inr d ↦ elim (cases_lt k (a + (w + e) + 2)) [
              | inl c ↦ (EndsOf A (k - (a + w + 2)), omega arith, omega arith)
              | inr c ↦ elim (cases_lt k (a + (w + e) + 3)) [
                | inl b ↦ (HeadOf B, tt, omega arith)
                | inr b ↦ elim (cases_lt k (a + (w + e) + w + 3)) [
                  | inl u ↦ (Words B (k - (a + (w + e) + 3)), omega arith, omega arith)
                  | inr u ↦ elim (cases_lt k (a + 2 * (w + e) + 3)) [
                    | inl v ↦ (EndsOf B (k - (a + (w + e) + w + 3)), omega arith, omega arith)
                    | inr v ↦ (Journal (k - (a + 2 * (w + e) + 3)), omega arith, omega arith)
                  ]
                ]
              ]
            ]
          ]
        ]
      ]
    ]

is_number : (h : Header) (p : Part) → number (arc_pages h) (word_pages h) (end_pages h) p ≡ page_number h p
is_number h Front = refl
is_number h (Arcs i) = refl
is_number h (HeadOf A) = refl
is_number h (HeadOf B) = refl
is_number h (Words A i) = refl
is_number h (Words B i) = refl
is_number h (EndsOf A i) = refl
is_number h (EndsOf B i) = refl
is_number h (Journal i) = refl

is_within : (h : Header) (p : Part) → IsPart h p → Within (arc_pages h) (word_pages h) (end_pages h) h.journal_pages p
is_within h Front is = is
is_within h (Arcs i) is = is
is_within h (HeadOf slot) is = is
is_within h (Words slot i) is = is
is_within h (EndsOf slot i) is = is
is_within h (Journal i) is = is

is_part : (h : Header) (p : Part) → Within (arc_pages h) (word_pages h) (end_pages h) h.journal_pages p → IsPart h p
is_part h Front is = is
is_part h (Arcs i) is = is
is_part h (HeadOf slot) is = is
is_part h (Words slot i) is = is
is_part h (EndsOf slot i) is = is
is_part h (Journal i) is = is

pub within : (h : Header) (p : Part) → IsPart h p → page_number h p < page_count h
within h p is = let lt = below (arc_pages h) (word_pages h) (end_pages h) h.journal_pages p (is_within h p is) in rw (sym (is_number h p)) lt

pub disjoint : (h : Header) (p q : Part) → IsPart h p → IsPart h q → page_number h p ≡ page_number h q → p ≡ q
disjoint h p q hp hq e = apart (arc_pages h) (word_pages h) (end_pages h) h.journal_pages p q (is_within h p hp) (is_within h q hq) (is_number h p ∙ e ∙ sym (is_number h q))

pub fills : (h : Header) (k : ℕ) → k < page_count h → (p : Part) × IsPart h p × (page_number h p ≡ k)
fills h k lt =
    let f = filled (arc_pages h) (word_pages h) (end_pages h) h.journal_pages k lt in
    (f.0, is_part h f.0 f.1, sym (is_number h f.0) ∙ f.2)

-- in format 1 there is room for the arcs alone
pub room_of_one : (f : Format) (arcs room : ℕ) → f ≡ One → IsHeaderRoomFor f arcs room → room ≡ arcs
room_of_one f arcs room e is = is e

no_pages : (arcs room : ℕ) → room ≡ arcs → pages_for 511 (room - arcs) ≡ 0
no_pages arcs room e = let none : room - arcs ≡ 0 = omega arith in rw none refl

pub no_ends : (h : Header) → IsHeader h → h.format ≡ One → (end_pages h ≡ 0) × (word_pages h ≡ pages_for 1023 h.arcs)
no_ends h is e =
    let same = room_of_one h.format h.arcs h.room e is.room_fits in
    (no_pages h.arcs h.room same, ap (pages_for 1023) same)
