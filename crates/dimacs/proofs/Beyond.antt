-- What a line is refused for that has too many fields, or too long a word.
use Rattle.std.proofs.Common.{◌≡◌, ℕ, ◌+◌, ◌<◌, ◌≤◌, ◌&&◌, ◌||◌, Bool, true, false, not, eqb, ltb, leb, List, [], ◌∷◌, ◌++◌, length, drop, Some, None, refl, ◌∙◌, arith, inl, inr, ◌⊎◌}
use Rattle.std.specs.Prelude.{is_none}
use Rattle.std.specs.List.{list_any, list_all, find}
use Rattle.std.specs.Option.{option_map_or}
use Rattle.std.specs.Str.{bytes_eq}
use Rattle.std.specs.Str.Parse.{starts_with_minus}
use lib.Chars.{codes}
use lib.Pointwise.{pointwise_long}
use Rattle.std.proofs.lemmas.Bool.{cases_Bool, lt-ltb, ltb-true, ltb-false, leb-true, leb-false, ne_eqb}
use Rattle.std.proofs.lemmas.List.{length-append}
use Rattle.std.proofs.lemmas.List.Folds.{list_any-append, list_all-append}
use Rattle.dimacs.specs.declared.fault.Code.TheVariants.{BadLine}
use Rattle.dimacs.specs.Digits.{is_decimal, are_digits}
use Rattle.dimacs.specs.Numerals.{numeral}
use Rattle.dimacs.specs.Faults.{Row, is_remark, is_malformed}
use Rattle.dimacs.specs.Joint.{is_run}
use Rattle.dimacs.specs.Commands.{Form, commands, form_of, command_applies, command_code}
use Rattle.dimacs.specs.Overflow.{has_other_byte, is_beyond, overflows}

-- a word that is no longer than words are is no long field
pub long_no_word : (field word : List ℕ) → ltb 16 (length field) ≡ true → ltb 16 (length word) ≡ false → bytes_eq field word ≡ false
long_no_word field word long short =
    elim (cases_Bool (bytes_eq field word)) [
      | inr other ↦ other
      | inl same ↦ absurd (omega (arith, pointwise_long eqb field word same, ltb-true _ _ long, ltb-false _ _ short))
    ]

pub word_no_long : (word field : List ℕ) → ltb 16 (length field) ≡ true → ltb 16 (length word) ≡ false → bytes_eq word field ≡ false
word_no_long word field long short =
    elim (cases_Bool (bytes_eq word field)) [
      | inr other ↦ other
      | inl same ↦ absurd (omega (arith, pointwise_long eqb word field same, ltb-true _ _ long, ltb-false _ _ short))
    ]

-- a field with another byte is no numeral, and goes on as none
no_digits : (digits : List ℕ) → list_all is_decimal digits ≡ false → are_digits digits ≡ false
no_digits digits e = rw e (and_false (ltb 0 (length digits)))
  where
    and_false : (b : Bool) → (b && false) ≡ false
    and_false true = refl
    and_false false = refl

not_so : (b : Bool) → not b ≡ true → b ≡ false
not_so true e = absurd cc
not_so false e = refl

pub no_numeral : (field : List ℕ) → has_other_byte field ≡ true → numeral field ≡ None
no_numeral field e =
    elim (cases_Bool (starts_with_minus field)) [
      | inl minus ↦ rw (minus, no_digits (drop 1 field) (not_so _ (rw minus at e))) refl
      | inr plain ↦ rw (plain, no_digits field (not_so _ (rw plain at e))) refl
    ]

still_other : (digits tail : List ℕ) → not (list_all is_decimal digits) ≡ true → not (list_all is_decimal (digits ++ tail)) ≡ true
still_other digits tail e = rw (list_all-append is_decimal digits tail, not_so _ e) refl

pub other_byte_more : (field tail : List ℕ) → has_other_byte field ≡ true → has_other_byte (field ++ tail) ≡ true
other_byte_more [] tail e = absurd cc
other_byte_more (b ∷ bs) tail e =
    elim (cases_Bool (eqb b 45)) [
      | inl minus ↦ rw minus (still_other bs tail (rw minus at e))
      | inr plain ↦ rw plain (still_other (b ∷ bs) tail (rw plain at e))
    ]

-- what overflows still does so where the field goes on
pub beyond_more : (before : ℕ) (field tail : List ℕ) → is_beyond before field ≡ true → is_beyond before (field ++ tail) ≡ true
beyond_more before field tail e =
    elim (cases_Bool (leb 16 before)) [
      | inl many ↦ rw many refl
      | inr few ↦
          let rest : (ltb 16 (length field) && (eqb before 0 || has_other_byte field)) ≡ true = rw few at e in
          elim (cases_Bool (ltb 16 (length field))) [
            | inr short ↦ absurd (let clash = rw short at rest in cc)
            | inl long ↦
                let still : ltb 16 (length (field ++ tail)) ≡ true = lt-ltb _ _ (omega (arith, ltb-true _ _ long, length-append field tail)) in
                let why : (eqb before 0 || has_other_byte field) ≡ true = rw long at rest in
                elim (cases_Bool (eqb before 0)) [
                  | inl first ↦ rw (few, still, first) refl
                  | inr later ↦
                      let other : has_other_byte field ≡ true = rw later at why in
                      rw (few, still, later, other_byte_more field tail other) refl
                ]
          ]
    ]

pub few_before : (before : ℕ) (field : List ℕ) → is_beyond before field ≡ false → before + 1 ≤ 16
few_before before field e =
    elim (cases_Bool (leb 16 before)) [
      | inl many ↦ absurd (let clash : true ≡ false = rw many at e in cc)
      | inr few ↦ omega (arith, leb-false _ _ few)
    ]

-- Of a line that overflows: its first field is too long, or there are too many behind it, or one of them is a long field that is no numeral.

pub first_is_long : (field : List ℕ) → overflows [] field ≡ true → ltb 16 (length field) ≡ true
first_is_long field e =
    elim (cases_Bool (ltb 16 (length field))) [
      | inl long ↦ long
      | inr short ↦ absurd (let clash : false ≡ true = rw short at e in cc)
    ]

pub many_or_other : (x : List ℕ) (xs : Row) (field : List ℕ) → overflows (x ∷ xs) field ≡ true
    → (16 ≤ 1 + length xs) ⊎ ((ltb 16 (length field) ≡ true) × (has_other_byte field ≡ true))
many_or_other x xs field e =
    elim (cases_Bool (leb 16 (length (x ∷ xs)))) [
      | inl many ↦ inl (omega (arith, leb-true _ _ many))
      | inr few ↦
          let rest : (ltb 16 (length field) && (eqb (length (x ∷ xs)) 0 || has_other_byte field)) ≡ true = rw few at e in
          let later : eqb (length (x ∷ xs)) 0 ≡ false = ne_eqb _ _ (λ e. absurd (omega (arith, e))) in
          elim (cases_Bool (ltb 16 (length field))) [
            | inr short ↦ absurd (let clash = rw short at rest in cc)
            | inl long ↦ inr (long, (rw (long, later) at rest))
          ]
    ]

or_true : (b : Bool) → (b || true) ≡ true
or_true true = refl
or_true false = refl

-- such numbers are not as they are to be
pub malformed_by : (n : ℕ) (numbers : Row) (field : List ℕ) (after : Row) → (n < length numbers + 1) ⊎ (has_other_byte field ≡ true)
    → is_malformed n (numbers ++ field ∷ after) ≡ true
malformed_by n numbers field after (inl many) =
    let other : eqb (length (numbers ++ field ∷ after)) n ≡ false = ne_eqb _ _ (λ e. absurd (omega (arith, e, length-append numbers (field ∷ after)))) in
    rw other refl
malformed_by n numbers field after (inr other) =
    let here : is_none (numeral field) ≡ true = rw (no_numeral field other) refl in
    let any : list_any (λ f. is_none (numeral f)) (numbers ++ field ∷ after) ≡ true
    = list_any-append (λ f. is_none (numeral f)) numbers (field ∷ after) ∙ rw here (or_true (list_any (λ f. is_none (numeral f)) numbers)) in
    rw any (or_true (not (eqb (length (numbers ++ field ∷ after)) n)))

pub malformed_beyond : (n : ℕ) (x : List ℕ) (xs : Row) (field : List ℕ) (after : Row) → n < 16 → overflows (x ∷ xs) field ≡ true → is_malformed n (xs ++ field ∷ after) ≡ true
malformed_beyond n x xs field after few e =
    elim (many_or_other x xs field e) [
      | inl many ↦ malformed_by n xs field after (inl (omega arith))
      | inr both ↦ malformed_by n xs field after (inr both.1)
    ]

-- no such line is `run`
pub beyond_no_run : (before : Row) (field : List ℕ) (after : Row) → overflows before field ≡ true → is_run (before ++ field ∷ after) ≡ false
beyond_no_run [] field after e = rw (long_no_word field (codes "run") (first_is_long field e) refl) refl
beyond_no_run (x ∷ xs) field after e =
    let more : eqb (length (x ∷ (xs ++ field ∷ after))) 1 ≡ false = ne_eqb _ _ (λ e. absurd (omega (arith, e, length-append xs (field ∷ after)))) in
    rw more (and_false (bytes_eq x (codes "run")))
  where
    and_false : (b : Bool) → (b && false) ≡ false
    and_false true = refl
    and_false false = refl

-- Commands.

pub found_true : (h test : Form → Bool) (forms : List Form) → list_all h forms ≡ true → option_map_or h (find test forms) true ≡ true
found_true h test [] all = refl
found_true h test (f ∷ forms) all =
    elim (cases_Bool (test f)) [
      | inl found ↦ rw found (and_left (h f) (list_all h forms) all)
      | inr other ↦ rw other (found_true h test forms (and_right (h f) (list_all h forms) all))
    ]
  where
    and_left : (a b : Bool) → (a && b) ≡ true → a ≡ true
    and_left true b e = refl
    and_left false b e = absurd cc

    and_right : (a b : Bool) → (a && b) ≡ true → b ≡ true
    and_right true b e = e
    and_right false b e = absurd cc

-- no form has a long word
pub none_found : (field : List ℕ) (others : Row) (forms : List Form) → ltb 16 (length field) ≡ true → list_all (λ f. not (ltb 16 (length f.word))) forms ≡ true → form_of forms (field ∷ others) ≡ None
none_found field others [] long short = refl
none_found field others (f ∷ forms) long short =
    let parts = and_parts (not (ltb 16 (length f.word))) (list_all (λ f. not (ltb 16 (length f.word))) forms) short in
    rw (long_no_word field f.word long (not_so _ parts.0)) (none_found field others forms long parts.1)
  where
    and_parts : (a b : Bool) → (a && b) ≡ true → (a ≡ true) × (b ≡ true)
    and_parts true b e = (refl, e)
    and_parts false b e = absurd cc

-- a line is bad by its forms, each of which has a short word and few numbers
pub bad_by_forms : (forms : List Form) (earlier : List Row) (before : Row) (field : List ℕ) (after : Row) → list_all (λ f. not (ltb 16 (length f.word))) forms ≡ true
    → ((numbers : Row) → is_malformed 0 numbers ≡ true → is_malformed 1 numbers ≡ true → is_malformed 2 numbers ≡ true → is_malformed 3 numbers ≡ true → list_all (λ f. is_malformed f.numbers numbers) forms ≡ true)
    → overflows before field ≡ true → is_remark 35 (before ++ field ∷ after) ≡ false → command_code forms earlier (before ++ field ∷ after) ≡ Some BadLine
unfolding command_code
bad_by_forms forms earlier [] field after short all e other =
    rw (other, none_found field after forms (first_is_long field e) short) refl
bad_by_forms forms earlier (x ∷ xs) field after short all e other =
    let numbers = xs ++ field ∷ after in
    let bad : command_applies forms (x ∷ (xs ++ field ∷ after)) BadLine ≡ true
    = found_true (λ f. is_malformed f.numbers (xs ++ field ∷ after)) _ forms
    (all (xs ++ field ∷ after) (malformed_beyond 0 x xs field after (omega arith) e) (malformed_beyond 1 x xs field after (omega arith) e)
    (malformed_beyond 2 x xs field after (omega arith) e) (malformed_beyond 3 x xs field after (omega arith) e)) in
    rw (other, bad) refl

pub command_overflows : (earlier : List Row) (before : Row) (field : List ℕ) (after : Row) → overflows before field ≡ true → is_remark 35 (before ++ field ∷ after) ≡ false
    → command_code commands earlier (before ++ field ∷ after) ≡ Some BadLine
command_overflows earlier before field after e other =
    bad_by_forms commands earlier before field after refl (λ numbers none one two three. rw (one, two, three) refl) e other
