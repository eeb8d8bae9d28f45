-- Sets of numbers as bits: a bit is set or cleared, and the next one is found.
use Rattle.std.proofs.Common.{◌≡◌, ◌≢◌, ℕ, ◌+◌, ◌*◌, ◌/◌, ◌%◌, ◌^◌, ◌<◌, ◌≤◌, min, List, length, get_or, set, sym, ap, subst, ◌∙◌, inl, inr, arith, bit_and}
use Rattle.std.specs.Int.{bit_at, trailing_zeros, w64}
use Rattle.std.proofs.Math.Nat.{mul-add-mod_self_right, mod-eq_of_lt}
use Rattle.std.proofs.lemmas.Bool.{cases_eq, cases_lt}
use Rattle.std.proofs.lemmas.List.{get_or-set_same, get_or-set_other, get_or_past}
use Rattle.std.proofs.lemmas.Nat.{div-mul-add, and_le_l}
use Rattle.std.proofs.lemmas.Nat.Bits.{bit_at_and, bit_at-lt, bit_at-zero, bit_at_above, bit_at-trailing_zeros, ones_shl, bit_at_mask_inside, bit_at_mask_below, same_from_bits}
use Rattle.buckets.specs.Places.{place_bit, IsLeastFrom, IsSummary}

-- ---- a word's bits from one on
abbrev pub rest_of : ℕ → ℕ → ℕ
rest_of word from = bit_and word (18446744073709551615 * 2 ^ from % 18446744073709551616)

bit_at-rest : (word from i : ℕ) → from < 64 → from ≤ i → i < 64 → bit_at (rest_of word from) i ≡ bit_at word i
bit_at-rest word from i small far below =
    bit_at_and word (18446744073709551615 * 2 ^ from % 18446744073709551616) i
    ∙ (ap (λ m. min (bit_at word i) (bit_at m i)) (ones_shl 64 from (omega arith))
    ∙ (ap (λ b. min (bit_at word i) b) (bit_at_mask_inside from 64 i far below) ∙ omega (arith, bit_at-lt word i)))

bit_at-cut : (word from i : ℕ) → from < 64 → i < from → bit_at (rest_of word from) i ≡ 0
bit_at-cut word from i small below =
    bit_at_and word (18446744073709551615 * 2 ^ from % 18446744073709551616) i
    ∙ (ap (λ m. min (bit_at word i) (bit_at m i)) (ones_shl 64 from (omega arith))
    ∙ (ap (λ b. min (bit_at word i) b) (bit_at_mask_below from 64 i below) ∙ omega arith))

pub none_left : (word from : ℕ) → from < 64 → word < 2 ^ 64 → rest_of word from ≡ 0 → (i : ℕ) → from ≤ i → bit_at word i ≡ 0
none_left word from small fits none i far = elim (cases_lt i 64) as (λ _. bit_at word i ≡ 0) [
  | inl lt ↦ sym (bit_at-rest word from i small far lt) ∙ (ap (λ n. bit_at n i) none ∙ bit_at-zero i)
  | inr le ↦ bit_at_above word 64 i fits le
]

pub some_left : (word from : ℕ) → from < 64 → rest_of word from < 2 ^ 64 → rest_of word from ≢ 0 → (trailing_zeros w64 (rest_of word from) < 64) × (from ≤ trailing_zeros w64 (rest_of word from)) × (bit_at word (trailing_zeros w64 (rest_of word from)) ≡ 1)
some_left word from small fits some =
    let t = bit_at-trailing_zeros w64 (rest_of word from) (omega arith) fits in
    let tz = trailing_zeros w64 (rest_of word from) in
    let far : from ≤ tz = elim (cases_lt tz from) as (λ _. from ≤ tz) [
      | inl lt ↦ absurd (omega (arith, t.1, bit_at-cut word from tz small lt))
      | inr le ↦ le
    ] in
    (t.0, far, sym (bit_at-rest word from tz small far t.0) ∙ t.1)

pub least_left : (word from : ℕ) → from < 64 → rest_of word from < 2 ^ 64 → rest_of word from ≢ 0 → (i : ℕ) → from ≤ i → i < trailing_zeros w64 (rest_of word from) → bit_at word i ≡ 0
least_left word from small fits some i far below =
    let t = bit_at-trailing_zeros w64 (rest_of word from) (omega arith) fits in
    sym (bit_at-rest word from i small far (omega (arith, t.0))) ∙ t.2 i below

-- ---- a word is written
pub place_bit-written : (words : List ℕ) (place word b : ℕ) → place / 64 < length words → bit_at word (place % 64) ≡ b → place_bit (set words (place / 64) word) place ≡ b
place_bit-written words place word b lt is = ap (λ w. bit_at w (place % 64)) (get_or-set_same words (place / 64) word 0 lt) ∙ is

pub place_bit-other : (words : List ℕ) (place word k : ℕ) → place / 64 < length words → ((i : ℕ) → i < 64 → i ≢ place % 64 → bit_at word i ≡ bit_at (get_or words (place / 64) 0) i) → k ≢ place → place_bit (set words (place / 64) word) k ≡ place_bit words k
place_bit-other words place word k lt others ne = elim (cases_eq (k / 64) (place / 64)) as (λ _. place_bit (set words (place / 64) word) k ≡ place_bit words k) [
  | inl same ↦
      let apart : k % 64 ≢ place % 64 = λ e. ne (omega arith) in
      ap (λ w. bit_at (get_or (set words (place / 64) word) w 0) (k % 64)) same
      ∙ (ap (λ w. bit_at w (k % 64)) (get_or-set_same words (place / 64) word 0 lt)
      ∙ (others (k % 64) (omega arith) apart ∙ ap (λ w. bit_at (get_or words w 0) (k % 64)) (sym same)))
  | inr apart ↦ ap (λ w. bit_at w (k % 64)) (get_or-set_other words (place / 64) (k / 64) word 0 apart)
]

pub written_less : (words : List ℕ) (at old mask : ℕ) → at < length words → old ≡ get_or words at 0 → get_or (set words at (bit_and old mask)) at 0 ≤ get_or words at 0
written_less words at old mask lt read = omega (arith, read, get_or-set_same words at (bit_and old mask) 0 lt, and_le_l old mask)

-- ---- the words in turn
pub place_bit-at : (words : List ℕ) (w b : ℕ) → b < 64 → place_bit words (w * 64 + b) ≡ bit_at (get_or words w 0) b
place_bit-at words w b small =
    ap (λ q. bit_at (get_or words q 0) ((w * 64 + b) % 64)) (div-mul-add w 64 b small)
    ∙ ap (λ r. bit_at (get_or words w 0) r) (mul-add-mod_self_right w 64 b ∙ mod-eq_of_lt small)

pub no_bit_past : (words : List ℕ) (k : ℕ) → length words ≤ k / 64 → place_bit words k ≡ 0
no_bit_past words k past = ap (λ w. bit_at w (k % 64)) (get_or_past words (k / 64) 0 past) ∙ bit_at-zero (k % 64)

-- none of the numbers from `from` on is in a word before w
abbrev pub IsNoneBefore : List ℕ → ℕ → ℕ → Type 0
IsNoneBefore words from w = (k : ℕ) → from ≤ k → k / 64 < w → place_bit words k ≡ 0

pub found : (words : List ℕ) (from w low b : ℕ) → b < 64 → from ≤ w * 64 + b → bit_at (get_or words w 0) b ≡ 1 → ((i : ℕ) → low ≤ i → i < b → bit_at (get_or words w 0) i ≡ 0) → IsNoneBefore words from w → ((k : ℕ) → from ≤ k → k / 64 ≡ w → low ≤ k % 64) → IsLeastFrom words from (w * 64 + b)
found words from w low b small far is before none_before reach = record {
  far = far;
  member = place_bit-at words w b small ∙ is;
  least = λ k from_k below. elim (cases_lt (k / 64) w) as (λ _. place_bit words k ≡ 0) [
    | inl lt ↦ none_before k from_k lt
    | inr le ↦
        let same : k / 64 ≡ w = omega arith in
        ap (λ q. bit_at (get_or words q 0) (k % 64)) same ∙ before (k % 64) (reach k from_k same) (omega arith)
  ];
}

pub none_in_word : (words : List ℕ) (from w low : ℕ) → ((i : ℕ) → low ≤ i → bit_at (get_or words w 0) i ≡ 0) → IsNoneBefore words from w → ((k : ℕ) → from ≤ k → k / 64 ≡ w → low ≤ k % 64) → IsNoneBefore words from (w + 1)
none_in_word words from w low none before reach k from_k below = elim (cases_lt (k / 64) w) as (λ _. place_bit words k ≡ 0) [
  | inl lt ↦ before k from_k lt
  | inr le ↦
      let same : k / 64 ≡ w = omega arith in
      ap (λ q. bit_at (get_or words q 0) (k % 64)) same ∙ none (k % 64) (reach k from_k same)
]

-- ---- words and their summary
pub no_bits : (word : ℕ) → ((i : ℕ) → 0 ≤ i → bit_at word i ≡ 0) → word ≡ 0
no_bits word none = same_from_bits word 0 (λ i. none i (omega arith) ∙ sym (bit_at-zero i))

pub bit_in_word : (words : List ℕ) (place : ℕ) → place_bit words place ≡ 1 → get_or words (place / 64) 0 ≢ 0
bit_in_word words place is none = let zero : bit_at (get_or words (place / 64) 0) (place % 64) ≡ 0 = ap (λ w. bit_at w (place % 64)) none ∙ bit_at-zero (place % 64) in omega arith

pub IsSummary-written : (words new summary marks : List ℕ) (at : ℕ) → IsSummary words summary → length new ≡ length words → length marks ≡ length summary → ((w : ℕ) → w ≢ at → get_or new w 0 ≡ get_or words w 0) → ((w : ℕ) → w ≢ at → place_bit marks w ≡ place_bit summary w) → (get_or new at 0 ≢ 0 → place_bit marks at ≡ 1) → (get_or new at 0 ≡ 0 → place_bit marks at ≡ 0) → IsSummary new marks
IsSummary-written words new summary marks at was long many same_words same_marks marked used = record {
  few = omega (arith, was.few);
  small = omega (arith, was.small);
  covers = omega (arith, was.covers);
  marked = λ w some. elim (cases_eq w at) as (λ _. place_bit marks w ≡ 1) [
    | inl e ↦ subst (λ k. place_bit marks k ≡ 1) (sym e) (marked (λ none. some (ap (λ k. get_or new k 0) e ∙ none)))
    | inr ne ↦ same_marks w ne ∙ was.marked w (λ none. some (same_words w ne ∙ none))
  ];
  used = λ w none. elim (cases_eq w at) as (λ _. place_bit marks w ≡ 0) [
    | inl e ↦ subst (λ k. place_bit marks k ≡ 0) (sym e) (used (sym (ap (λ k. get_or new k 0) e) ∙ none))
    | inr ne ↦ same_marks w ne ∙ was.used w (sym (same_words w ne) ∙ none)
  ];
}

-- a word without a mark is 0
pub unmarked : (words summary : List ℕ) (w : ℕ) → IsSummary words summary → place_bit summary w ≡ 0 → get_or words w 0 ≡ 0
unmarked words summary w is none = elim (cases_eq (get_or words w 0) 0) as (λ _. get_or words w 0 ≡ 0) [
  | inl e ↦ e
  | inr some ↦ absurd (omega (arith, is.marked w some))
]

pub marked_word : (words summary : List ℕ) (w : ℕ) → IsSummary words summary → place_bit summary w ≡ 1 → get_or words w 0 ≢ 0
marked_word words summary w is some none = absurd (omega (arith, is.used w none))

pub within_words : (words : List ℕ) (w : ℕ) → get_or words w 0 ≢ 0 → w < length words
within_words words w some = elim (cases_lt w (length words)) as (λ _. w < length words) [
  | inl lt ↦ lt
  | inr le ↦ absurd (some (get_or_past words w 0 le))
]

-- no number is in the words between the first one, in which none is left, and the next marked one
pub none_between : (words summary : List ℕ) (from place : ℕ) → IsSummary words summary → ((i : ℕ) → from % 64 ≤ i → bit_at (get_or words (from / 64) 0) i ≡ 0) → ((w : ℕ) → from / 64 + 1 ≤ w → w < place → place_bit summary w ≡ 0) → IsNoneBefore words from place
none_between words summary from place is first marks k far below = elim (cases_eq (k / 64) (from / 64)) as (λ _. place_bit words k ≡ 0) [
  | inl same ↦ ap (λ q. bit_at (get_or words q 0) (k % 64)) same ∙ first (k % 64) (omega arith)
  | inr apart ↦ ap (λ w. bit_at w (k % 64)) (unmarked words summary (k / 64) is (marks (k / 64) (omega arith) below)) ∙ bit_at-zero (k % 64)
]

-- no number is in the words before the first marked one
pub none_before_mark : (words summary : List ℕ) (place : ℕ) → IsSummary words summary → IsLeastFrom summary 0 place → IsNoneBefore words 0 place
none_before_mark words summary place is next k far below = ap (λ w. bit_at w (k % 64)) (unmarked words summary (k / 64) is (next.least (k / 64) (omega arith) below)) ∙ bit_at-zero (k % 64)
