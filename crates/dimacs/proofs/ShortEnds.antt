-- Digits that may be left out of a long numeral.
use Rattle.std.proofs.Common.{◌≡◌, ℕ, zero, suc, ◌+◌, ◌-◌, ◌*◌, ◌^◌, ◌<◌, ◌≤◌, Bool, true, false, not, ◌&&◌, cond, eqb, ltb, List, [], ◌∷◌, ◌++◌, All, length, take, drop, get_or, min, Option, Some, None, Result, Ok, Err, refl, sym, ap, subst, ◌∙◌, arith, inl, inr, ◌⊎◌, append_assoc, take-append-drop, add-one, drop-cons}
use Rattle.std.specs.Prelude.{is_some, OnOk}
use Rattle.std.specs.Char.{digit_value}
use Rattle.std.specs.List.{list_all, prefix_len, position_or_len, slice_split, last_or, filter}
use Rattle.std.specs.Option.{option_map}
use Rattle.std.specs.Io.BufRead.{strip_last}
use Rattle.std.specs.Str.Parse.{digits_value, digits_value_after, starts_with_minus}
use Rattle.std.proofs.Math.Nat.{mul_assoc, mul_comm, pow-suc}
use Rattle.std.proofs.lemmas.Bool.{cases_Bool, cases_lt, lt-ltb, le-ltb, ltb-true, eqb-true, eqb-false, ne_eqb}
use Rattle.std.proofs.lemmas.List.{append-nil, length-append, length-take, length-drop, take_all, take_more, get_or-drop, get_or_default}
use Rattle.std.proofs.lemmas.List.Edits.{take-paste}
use Rattle.std.proofs.Math.Seq.{paste, take-append_seam, drop-append_seam, drop-append-add}
use Rattle.std.proofs.lemmas.List.Elements.{All-append}
use Rattle.std.proofs.lemmas.List.Folds.{list_all-append}
use Rattle.std.proofs.lemmas.List.Sums.{AllPass-from_list_all, prefix_len_stops}
use Rattle.std.proofs.lemmas.List.Splits.{slice_split_none}
use Rattle.std.proofs.lemmas.Str.{digit_value_digit}
use Rattle.std.proofs.lemmas.Str.Parse.{digit_from_value}
use Rattle.dimacs.specs.Alike.{AreFieldsAlike, SaySame}
use Rattle.dimacs.specs.Digits.{is_decimal, are_digits}
use Rattle.dimacs.specs.Lines.{is_blank, is_not_empty, fields}
use Rattle.dimacs.specs.Faults.{Row, is_empty}
use Rattle.dimacs.specs.Numerals.{numeral, signed, kept}
use Rattle.dimacs.specs.NumeralEnds.{last_piece, ends_in_numeral, EndsInDigits, HasShortEnd}
use Rattle.dimacs.specs.Overflow.{EndsInBlank}
use Rattle.dimacs.proofs.Alikes.{one_differs}
use Rattle.dimacs.proofs.Fronts.{fields_at_blank, strip_cons, strip_more, split_at_yes}

-- The number that digits write.

value_more : (n : ℕ) (xs ys : List ℕ) → digits_value_after 10 n (xs ++ ys) ≡ digits_value_after 10 (digits_value_after 10 n xs) ys
value_more n [] ys = refl
value_more n (x ∷ xs) ys = value_more (n * 10 + digit_value x) xs ys

ten_more : (m k : ℕ) → m * 10 ^ suc k ≡ m * 10 * 10 ^ k
ten_more m k = ap (λ (n : ℕ). m * n) (pow-suc 10 k ∙ mul_comm (10 ^ k) 10) ∙ sym (mul_assoc m 10 (10 ^ k))

value_grows : (n m : ℕ) (ds : List ℕ) → m ≤ n → m * 10 ^ length ds ≤ digits_value_after 10 n ds
value_grows n m [] le = omega (arith, le)
value_grows n m (d ∷ ds) le = rw (ten_more m (length ds)) (value_grows (n * 10 + digit_value d) (m * 10) ds (omega (arith, le)))

value_stays : (n : ℕ) (ds : List ℕ) → n ≤ digits_value_after 10 n ds
value_stays n [] = omega arith
value_stays n (d ∷ ds) = omega (arith, value_stays (n * 10 + digit_value d) ds)

value_without_zeros : (z : ℕ) (ds : List ℕ) → z ≤ position_or_len (λ b. not (eqb b 48)) ds → digits_value_after 10 0 ds ≡ digits_value_after 10 0 (drop z ds)
value_without_zeros zero ds le = refl
value_without_zeros (suc z) [] le = refl
value_without_zeros (suc z) (d ∷ ds) le =
    elim (cases_Bool (eqb d 48)) [
      | inl is ↦
          let zero_is : digit_value d ≡ 0 = rw (eqb-true d 48 is) refl in
          let less : z ≤ position_or_len (λ b. not (eqb b 48)) ds = omega (arith, (rw is at le)) in
          rw zero_is (value_without_zeros z ds less)
      | inr other ↦ absurd (omega (arith, (rw other at le)))
    ]

and_parts : (a b : Bool) → (a && b) ≡ true → (a ≡ true) × (b ≡ true)
and_parts true b e = (refl, e)
and_parts false b e = absurd cc

both : (a b : Bool) → a ≡ true → b ≡ true → (a && b) ≡ true
both a b e f = rw (e, f) refl

-- digits, cut in two
cut_digits : (n : ℕ) (ds : List ℕ) → list_all is_decimal ds ≡ true → (list_all is_decimal (take n ds) ≡ true) × (list_all is_decimal (drop n ds) ≡ true)
cut_digits n ds all = and_parts _ _ (sym (list_all-append is_decimal (take n ds) (drop n ds)) ∙ ap (list_all is_decimal) (take-append-drop n ds) ∙ all)

digit_above : (d : ℕ) → is_decimal d ≡ true → eqb d 48 ≡ false → 1 ≤ digit_value d
digit_above d is other =
    let range = digit_from_value d (ltb-true _ _ is) in
    omega (arith, digit_value_digit d range, range, eqb-false d 48 other)

-- 21 digits, of which the first is none of the zeros, write more than 64 bits do
many_digits : (ds : List ℕ) → list_all is_decimal ds ≡ true → 21 ≤ length ds → eqb (get_or ds 0 0) 48 ≡ false → 2 ^ 64 - 1 ≤ digits_value_after 10 0 (take 21 ds)
many_digits [] all many other = absurd (omega (arith, many))
many_digits (d ∷ ds) all many other =
    let one : 1 ≤ digit_value d = digit_above d (and_parts _ _ all).0 other in
    let count : length (take 20 ds) ≡ 20 = omega (arith, length-take 20 ds, many) in
    let grows : 1 * 10 ^ 20 ≤ digits_value_after 10 (0 * 10 + digit_value d) (take 20 ds)
    = subst (λ (n : ℕ). 1 * 10 ^ n ≤ digits_value_after 10 (0 * 10 + digit_value d) (take 20 ds)) count (value_grows (0 * 10 + digit_value d) 1 (take 20 ds) (omega (arith, one))) in
    omega (arith, grows)

same_above : (a b most : ℕ) → most ≤ a → most ≤ b → min a most ≡ min b most
same_above a b most le more = omega arith

module _ (z : ℕ) (ds : List ℕ) (all : list_all is_decimal ds ≡ true) (many : 21 < length ds) (zeros : z ≡ min (position_or_len (λ b. not (eqb b 48)) ds) (length ds - 21)) where
  pub short_digits : list_all is_decimal (take 21 (drop z ds)) ≡ true
  short_digits = (cut_digits 21 (drop z ds) (cut_digits z ds all).1).0

  pub short_count : length (take 21 (drop z ds)) ≡ 21
  short_count = omega (arith, length-take 21 (drop z ds), length-drop z ds, zeros, many)

  first_left : z < length ds - 21 → eqb (get_or (drop z ds) 0 0) 48 ≡ false
  first_left less =
      let stop : z ≡ position_or_len (λ b. not (eqb b 48)) ds = omega (arith, zeros, less) in
      let within : prefix_len (λ b. not (not (eqb b 48))) ds < length ds = omega (arith, stop, less) in
      let here : drop z ds ≡ get_or ds z 0 ∷ drop (z + 1) ds = rw (add-one, drop-cons ds z 0 (omega (arith, less))) refl in
      let stops : not (not (eqb (get_or ds z 0) 48)) ≡ false = rw stop (prefix_len_stops (λ b. not (not (eqb b 48))) ds 0 within) in
      rw here (twice _ stops)
    where
      twice : (b : Bool) → not (not b) ≡ false → b ≡ false
      twice true e = absurd cc
      twice false e = refl

  -- both write the same number, or both one that takes more than 64 bits, whatever digits follow
  pub same_size : (tail : List ℕ) → min (digits_value 10 (ds ++ tail)) (2 ^ 64 - 1) ≡ min (digits_value 10 (take 21 (drop z ds) ++ tail)) (2 ^ 64 - 1)
  same_size tail =
      let less : z ≤ position_or_len (λ b. not (eqb b 48)) ds = omega (arith, zeros) in
      let left : digits_value_after 10 0 ds ≡ digits_value_after 10 0 (drop z ds) = value_without_zeros z ds less in
      let whole : digits_value 10 (ds ++ tail) ≡ digits_value_after 10 (digits_value_after 10 0 (drop z ds)) tail = value_more 0 ds tail ∙ ap (λ (n : ℕ). digits_value_after 10 n tail) left in
      let cut : digits_value 10 (take 21 (drop z ds) ++ tail) ≡ digits_value_after 10 (digits_value_after 10 0 (take 21 (drop z ds))) tail = value_more 0 (take 21 (drop z ds)) tail in
      elim (cases_lt z (length ds - 21)) [
        | inr enough ↦
            let all_left : take 21 (drop z ds) ≡ drop z ds = take_all 21 (drop z ds) (omega (arith, length-drop z ds, enough, zeros)) in
            rw (whole, cut, all_left) refl
        | inl more ↦
            let big : 2 ^ 64 - 1 ≤ digits_value_after 10 0 (take 21 (drop z ds)) = many_digits (drop z ds) (cut_digits z ds all).1 (omega (arith, length-drop z ds, more)) (first_left more) in
            let joined : digits_value_after 10 0 (drop z ds) ≡ digits_value_after 10 (digits_value_after 10 0 (take 21 (drop z ds))) (drop 21 (drop z ds))
            = ap (digits_value_after 10 0) (sym (take-append-drop 21 (drop z ds))) ∙ value_more 0 (take 21 (drop z ds)) (drop 21 (drop z ds)) in
            let bigger : 2 ^ 64 - 1 ≤ digits_value_after 10 0 (drop z ds) = rw joined (omega (arith, big, value_stays (digits_value_after 10 0 (take 21 (drop z ds))) (drop 21 (drop z ds)))) in
            rw (whole, cut) (same_above _ _ (2 ^ 64 - 1) (omega (arith, bigger, value_stays (digits_value_after 10 0 (drop z ds)) tail)) (omega (arith, big, value_stays (digits_value_after 10 0 (take 21 (drop z ds))) tail)))
      ]

  signed_same : (minus : Bool) (tail : List ℕ) → option_map kept (signed minus (ds ++ tail)) ≡ option_map kept (signed minus (take 21 (drop z ds) ++ tail))
  signed_same minus tail =
      let some : ltb 0 (length (ds ++ tail)) ≡ true = lt-ltb _ _ (omega (arith, many, length-append ds tail)) in
      let some_short : ltb 0 (length (take 21 (drop z ds) ++ tail)) ≡ true = lt-ltb _ _ (omega (arith, short_count, length-append (take 21 (drop z ds)) tail)) in
      let digits : list_all is_decimal (ds ++ tail) ≡ list_all is_decimal tail = list_all-append is_decimal ds tail ∙ rw all refl in
      let digits_short : list_all is_decimal (take 21 (drop z ds) ++ tail) ≡ list_all is_decimal tail = list_all-append is_decimal (take 21 (drop z ds)) tail ∙ rw short_digits refl in
      elim (cases_Bool (list_all is_decimal tail)) [
        | inr other ↦ rw (some, some_short, digits, digits_short, other) refl
        | inl is ↦ rw (some, some_short, digits, digits_short, is) (ap (λ (n : ℕ). Some (record { has_minus = minus; size = n })) (same_size tail))
      ]

  no_minus : (xs tail : List ℕ) → list_all is_decimal xs ≡ true → 0 < length xs → starts_with_minus (xs ++ tail) ≡ false
  no_minus [] tail are some = absurd (omega (arith, some))
  no_minus (x ∷ xs) tail are some =
      let range = digit_from_value x (ltb-true _ _ (and_parts _ _ are).0) in
      ne_eqb x 45 (λ e. absurd (omega (arith, e, range)))

  -- a field that begins with these digits, perhaps behind a minus, is like the one that begins with the short ones
  pub short_alike : (sign tail : List ℕ) → (sign ≡ []) ⊎ (sign ≡ 45 ∷ []) → AreFieldsAlike ((sign ++ ds) ++ tail) ((sign ++ take 21 (drop z ds)) ++ tail)
  short_alike sign tail (inl none) =
      rw none (inr (
        omega (arith, many, length-append ds tail),
        omega (arith, short_count, length-append (take 21 (drop z ds)) tail),
        rw (no_minus ds tail all (omega (arith, many)), no_minus (take 21 (drop z ds)) tail short_digits (omega (arith, short_count))) (signed_same false tail),
      ))
  short_alike sign tail (inr minus) =
      rw minus (inr (
        omega (arith, many, length-append ds tail),
        omega (arith, short_count, length-append (take 21 (drop z ds)) tail),
        signed_same true tail,
      ))

-- The last field of a front, and how a line goes on from it.

no_blanks : (ds : List ℕ) → list_all is_decimal ds ≡ true → All (λ b. is_blank b ≡ false) ds
no_blanks ds all k d l =
    let range = digit_from_value (get_or ds k d) (ltb-true _ _ (AllPass-from_list_all is_decimal ds all k d l)) in
    rw (ne_eqb (get_or ds k d) 32 (λ e. absurd (omega (arith, e, range))), ne_eqb (get_or ds k d) 9 (λ e. absurd (omega (arith, e, range)))) refl

signed_no_blanks : (sign ds : List ℕ) → (sign ≡ []) ⊎ (sign ≡ 45 ∷ []) → list_all is_decimal ds ≡ true → All (λ b. is_blank b ≡ false) (sign ++ ds)
signed_no_blanks sign ds (inl none) all = rw none (no_blanks ds all)
signed_no_blanks sign ds (inr minus) all = rw minus (All-append (λ b. is_blank b ≡ false) (45 ∷ []) ds (one (45 ∷ []) refl) (no_blanks ds all))
  where
    one : (xs : List ℕ) → xs ≡ 45 ∷ [] → All (λ b. is_blank b ≡ false) xs
    one xs e k d l = rw (e, (let zero_is : k ≡ 0 = omega (arith, l, ap length e) in zero_is)) refl

one_field : (xs : List ℕ) → All (λ b. is_blank b ≡ false) xs → 0 < length xs → fields xs ≡ xs ∷ []
one_field xs none some =
    let is : ltb 0 (length xs) ≡ true = lt-ltb _ _ some in
    ap (filter is_not_empty) (slice_split_none is_blank xs none) ∙ rw is refl

-- the field goes on in the same way, whatever it has so far
record GoesOnBy (more : List ℕ) : Type 0 where
  tail : List ℕ
  others : Row
  goes : (field : List ℕ) → All (λ b. is_blank b ≡ false) field → 0 < length field → fields (field ++ more) ≡ (field ++ tail) ∷ others

on_by : (more : List ℕ) → GoesOnBy more
on_by [] = record { tail = []; others = []; goes = λ field none some. rw append-nil (one_field field none some) }
on_by (b ∷ bs) =
    elim (cases_Bool (is_blank b)) [
      | inl blank ↦ record { tail = []; others = fields bs; goes = λ field none some. fields_at_blank field b bs blank ∙ rw (one_field field none some, append-nil) refl }
      | inr other ↦
          let on = on_by bs in
          record {
            tail = b ∷ on.tail;
            others = on.others;
            goes = λ field none some.
                let joined : field ++ b ∷ bs ≡ (field ++ b ∷ []) ++ bs = sym (append_assoc field (b ∷ []) bs) in
                let alone : All (λ b. is_blank b ≡ false) (b ∷ []) = one b other in
                ap fields joined ∙ on.goes (field ++ b ∷ []) (All-append (λ b. is_blank b ≡ false) field (b ∷ []) none alone) (omega (arith, length-append field (b ∷ [])))
                ∙ ap (λ (l : List ℕ). l ∷ on.others) (append_assoc field (b ∷ []) on.tail);
          }
    ]
  where
    one : (b : ℕ) → is_blank b ≡ false → All (λ b. is_blank b ≡ false) (b ∷ [])
    one b e zero d l = e
    one b e (suc k) d l = absurd (omega (arith, l))

no_return : (ds : List ℕ) → list_all is_decimal ds ≡ true → strip_last 13 ds ≡ ds
no_return [] all = refl
no_return (x ∷ []) all =
    let range = digit_from_value x (ltb-true _ _ (and_parts _ _ all).0) in
    let other : eqb x 13 ≡ false = ne_eqb x 13 (λ e. absurd (omega (arith, e, range))) in
    rw other refl
no_return (x ∷ y ∷ ys) all = strip_cons x y ys ∙ ap (λ (l : List ℕ). x ∷ l) (no_return (y ∷ ys) (and_parts _ _ all).1)

strip_behind_digits : (xs ds more : List ℕ) → list_all is_decimal ds ≡ true → 0 < length ds → strip_last 13 ((xs ++ ds) ++ more) ≡ (xs ++ ds) ++ strip_last 13 more
strip_behind_digits xs ds [] all some = rw (append-nil (xs ++ ds)) (strip_more xs ds some ∙ ap (λ (l : List ℕ). xs ++ l) (no_return ds all))
strip_behind_digits xs ds (b ∷ bs) all some = strip_more (xs ++ ds) (b ∷ bs) (omega arith)

-- the fields of a line whose front ends in digits behind other fields
fields_behind : (before sign ds more : List ℕ) → EndsInBlank before → (sign ≡ []) ⊎ (sign ≡ 45 ∷ []) → list_all is_decimal ds ≡ true → 0 < length ds
    → (on : GoesOnBy (strip_last 13 more)) → fields (strip_last 13 (((before ++ sign) ++ ds) ++ more)) ≡ fields before ++ ((sign ++ ds) ++ on.tail) ∷ on.others
fields_behind before sign ds more (k, b, is, blank) sign_is all some on =
    let at : fields before ≡ fields k = ap fields is ∙ fields_at_blank k b [] blank ∙ append-nil (fields k) in
    let line : ((before ++ sign) ++ ds) ++ strip_last 13 more ≡ k ++ b ∷ ((sign ++ ds) ++ strip_last 13 more)
    = ap (λ (l : List ℕ). ((l ++ sign) ++ ds) ++ strip_last 13 more) is ∙ rw (append_assoc k (b ∷ []) sign, append_assoc k (b ∷ sign) ds, append_assoc k (b ∷ (sign ++ ds)) (strip_last 13 more)) refl in
    ap fields (strip_behind_digits (before ++ sign) ds more all some ∙ line) ∙ fields_at_blank k b ((sign ++ ds) ++ strip_last 13 more) blank
    ∙ ap (λ (l : Row). fields k ++ l) (on.goes (sign ++ ds) (signed_no_blanks sign ds sign_is all) (omega (arith, some, length-append sign ds)))
    ∙ ap (λ (l : Row). l ++ ((sign ++ ds) ++ on.tail) ∷ on.others) (sym at)

pub shortened_same : (before sign ds more : List ℕ) (z : ℕ) → EndsInBlank before → 0 < length (fields before) → (sign ≡ []) ⊎ (sign ≡ 45 ∷ []) → list_all is_decimal ds ≡ true → 21 < length ds
    → z ≡ min (position_or_len (λ b. not (eqb b 48)) ds) (length ds - 21)
    → SaySame (fields (strip_last 13 (((before ++ sign) ++ ds) ++ more))) (fields (strip_last 13 (((before ++ sign) ++ take 21 (drop z ds)) ++ more)))
shortened_same before sign ds more z ends behind sign_is all many zeros =
    let on = on_by (strip_last 13 more) in
    rw (fields_behind before sign ds more ends sign_is all (omega (arith, many)) on, fields_behind before sign (take 21 (drop z ds)) more ends sign_is (short_digits z ds all many zeros) (omega (arith, short_count z ds all many zeros)) on)
    (one_differs (fields before) ((sign ++ ds) ++ on.tail) ((sign ++ take 21 (drop z ds)) ++ on.tail) on.others behind (short_alike z ds all many zeros sign on.tail sign_is))

-- What stands behind the last blank.

last_or_append : (o : Option (List ℕ)) (xs : List (List ℕ)) (y : List ℕ) → last_or o (xs ++ y ∷ []) ≡ Some y
last_or_append o [] y = refl
last_or_append o (x ∷ xs) y = last_or_append (Some x) xs y

pub piece_behind : (k : List ℕ) (b : ℕ) (field : List ℕ) → is_blank b ≡ true → All (λ b. is_blank b ≡ false) field → last_piece (k ++ b ∷ field) ≡ field
piece_behind k b field blank none =
    let cut : slice_split is_blank (k ++ b ∷ field) ≡ slice_split is_blank k ++ field ∷ [] = split_at_yes is_blank k b field blank ∙ ap (λ (l : List (List ℕ)). slice_split is_blank k ++ l) (slice_split_none is_blank field none) in
    rw (cut, last_or_append None (slice_split is_blank k) field) refl

pub piece_alone : (field : List ℕ) → All (λ b. is_blank b ≡ false) field → last_piece field ≡ field
piece_alone field none = rw (slice_split_none is_blank field none) refl

pub short_end : (before sign ds : List ℕ) → EndsInBlank before → (sign ≡ []) ⊎ (sign ≡ 45 ∷ []) → list_all is_decimal ds ≡ true → length ds ≤ 21 → HasShortEnd ((before ++ sign) ++ ds)
short_end before sign ds (k, b, is, blank) sign_is all few e =
    let whole : (before ++ sign) ++ ds ≡ k ++ b ∷ (sign ++ ds) = ap (λ (l : List ℕ). (l ++ sign) ++ ds) is ∙ rw (append_assoc k (b ∷ []) sign, append_assoc k (b ∷ sign) ds) refl in
    rw (whole, piece_behind k b (sign ++ ds) blank (signed_no_blanks sign ds sign_is all)) (omega (arith, few, length-append sign ds, sign_length sign sign_is))
  where
    sign_length : (sign : List ℕ) → (sign ≡ []) ⊎ (sign ≡ 45 ∷ []) → length sign ≤ 1
    sign_length sign (inl none) = rw none (omega arith)
    sign_length sign (inr minus) = rw minus (omega arith)

-- The last field of a front, where it begins.

no_blank_behind : (front : List ℕ) (start : ℕ) → ((k : ℕ) → start ≤ k → k < length front → is_blank (get_or front k 0) ≡ false) → All (λ b. is_blank b ≡ false) (drop start front)
no_blank_behind front start field k d l =
    let within : start + k < length front = omega (arith, length-drop start front, l) in
    let at : get_or (drop start front) k d ≡ get_or front (start + k) 0 = get_or-drop start front k d ∙ get_or_default front (start + k) d 0 within in
    rw at (field (start + k) (omega arith) within)

ends_before : (front : List ℕ) (start : ℕ) → start ≤ length front → (0 < start → is_blank (get_or front (start - 1) 0) ≡ true) → (take start front ≡ []) ⊎ EndsInBlank (take start front)
ends_before front zero within behind = inl refl
ends_before front (suc n) within behind =
    let more : take (n + 1) front ≡ take n front ++ get_or front n 0 ∷ [] = take_more front n 0 (omega (arith, within)) in
    let one : suc n ≡ n + 1 = omega arith in
    let less : suc n - 1 ≡ n = omega arith in
    let blank : is_blank (get_or front (suc n - 1) 0) ≡ true = behind (omega arith) in
    inr (take n front, get_or front n 0, (rw one more), (rw less at blank))

behind_is : (before field : List ℕ) → (before ≡ []) ⊎ EndsInBlank before → All (λ b. is_blank b ≡ false) field → (last_piece (before ++ field) ≡ field) × (fields (before ++ field) ≡ fields before ++ fields field)
behind_is before field (inl none) no_blank = rw none (piece_alone field no_blank, refl)
behind_is before field (inr (k, b, is, blank)) no_blank =
    let whole : before ++ field ≡ k ++ b ∷ field = ap (λ (l : List ℕ). l ++ field) is ∙ append_assoc k (b ∷ []) field in
    let at : fields before ≡ fields k = ap fields is ∙ fields_at_blank k b [] blank ∙ append-nil (fields k) in
    (rw whole (piece_behind k b field blank no_blank), (rw (whole, at) (fields_at_blank k b field blank)))

at_most_one : (field : List ℕ) → All (λ b. is_blank b ≡ false) field → length (fields field) ≤ 1
at_most_one [] none = omega arith
at_most_one (b ∷ bs) none = rw (one_field (b ∷ bs) none (omega arith)) (omega arith)

and_false : (b : Bool) → (b && false) ≡ false
and_false true = refl
and_false false = refl

pub alone_no_end : (before field : List ℕ) → (before ≡ []) ⊎ EndsInBlank before → All (λ b. is_blank b ≡ false) field → fields before ≡ [] → ends_in_numeral (before ++ field) ≡ false
alone_no_end before field behind no_blank none =
    let is = behind_is before field behind no_blank in
    let few : ltb 1 (length (fields (before ++ field))) ≡ false = le-ltb _ _ (rw (is.1, none) (at_most_one field no_blank)) in
    rw few (and_false (is_some (numeral (last_piece (before ++ field)))))

-- whether a field is a numeral
numeral_by : (field : List ℕ) → is_some (numeral field) ≡ are_digits (cond (starts_with_minus field) (drop 1 field) field)
numeral_by field =
    elim (cases_Bool (starts_with_minus field)) [
      | inl minus ↦ rw minus (by true (drop 1 field))
      | inr plain ↦ rw plain (by false field)
    ]
  where
    by : (minus : Bool) (digits : List ℕ) → is_some (signed minus digits) ≡ are_digits digits
    by minus digits =
        elim (cases_Bool (are_digits digits)) [
          | inl are ↦ rw are refl
          | inr other ↦ rw other refl
        ]

pub no_numeral_end : (before field : List ℕ) → (before ≡ []) ⊎ EndsInBlank before → All (λ b. is_blank b ≡ false) field → are_digits (cond (starts_with_minus field) (drop 1 field) field) ≡ false
    → ends_in_numeral (before ++ field) ≡ false
no_numeral_end before field behind no_blank other =
    let is = behind_is before field behind no_blank in
    let none : is_some (numeral (last_piece (before ++ field))) ≡ false = rw is.0 (numeral_by field ∙ other) in
    rw none refl

sign_of : (field : List ℕ) → (sign : List ℕ) × (field ≡ sign ++ cond (starts_with_minus field) (drop 1 field) field) × ((sign ≡ []) ⊎ (sign ≡ 45 ∷ []))
sign_of [] = ([], refl, inl refl)
sign_of (b ∷ bs) =
    elim (cases_Bool (eqb b 45)) [
      | inl minus ↦ (45 ∷ [], (rw (minus, ← (eqb-true b 45 minus)) refl), inr refl)
      | inr plain ↦ ([], (rw plain refl), inl refl)
    ]

pub digits_found : (before field : List ℕ) → (before ≡ []) ⊎ EndsInBlank before → 0 < length (fields before) → are_digits (cond (starts_with_minus field) (drop 1 field) field) ≡ true
    → EndsInDigits (before ++ field) (length (before ++ field) - length (cond (starts_with_minus field) (drop 1 field) field))
digits_found before field (inl none) some are = absurd (omega (arith, some, ap (λ (l : List ℕ). length (fields l)) none))
digits_found before field (inr ends) some are =
    let signed_by = sign_of field in
    let digits = cond (starts_with_minus field) (drop 1 field) field in
    let whole : before ++ field ≡ (before ++ signed_by.0) ++ digits = ap (λ (l : List ℕ). before ++ l) signed_by.1 ∙ sym (append_assoc before signed_by.0 digits) in
    record {
      before = before;
      sign = signed_by.0;
      digits = digits;
      is = whole;
      at = omega (arith, ap length whole, length-append (before ++ signed_by.0) digits);
      ends = ends;
      behind = some;
      sign_is = signed_by.2;
      are = are;
    }

-- What is known of a front that is cut where its last field begins.
module _ (front : List ℕ) (start : ℕ) (within : start ≤ length front) (field : (k : ℕ) → start ≤ k → k < length front → is_blank (get_or front k 0) ≡ false)
    (behind : 0 < start → is_blank (get_or front (start - 1) 0) ≡ true) where
  whole_again : take start front ++ drop start front ≡ front
  whole_again = take-append-drop start front

  nothing : (xs : Row) → is_empty xs ≡ true → xs ≡ []
  nothing [] e = refl
  nothing (x ∷ xs) e = absurd cc

  some_fields : (xs : Row) → is_empty xs ≡ false → 0 < length xs
  some_fields [] e = absurd cc
  some_fields (x ∷ xs) e = omega arith

  pub cut_alone : is_empty (fields (take start front)) ≡ true → ends_in_numeral front ≡ false
  cut_alone none =
      let cut = alone_no_end (take start front) (drop start front) (ends_before front start within behind) (no_blank_behind front start field) (nothing _ none) in
      rw whole_again at cut

  pub cut_other : are_digits (cond (starts_with_minus (drop start front)) (drop 1 (drop start front)) (drop start front)) ≡ false → ends_in_numeral front ≡ false
  cut_other other =
      let cut = no_numeral_end (take start front) (drop start front) (ends_before front start within behind) (no_blank_behind front start field) other in
      rw whole_again at cut

  pub cut_found : is_empty (fields (take start front)) ≡ false → are_digits (cond (starts_with_minus (drop start front)) (drop 1 (drop start front)) (drop start front)) ≡ true
      → EndsInDigits front (length front - length (cond (starts_with_minus (drop start front)) (drop 1 (drop start front)) (drop start front)))
  cut_found some are =
      let cut = digits_found (take start front) (drop start front) (ends_before front start within behind) (some_fields _ some) are in
      rw whole_again at cut

-- What is left where digits are moved down and the rest is cut off.

moved_is : (xs : List ℕ) (start z : ℕ) → start + (z + 21) ≤ length xs → (j : ℕ) → j ≡ 21 → take (start + 21) (paste xs start (drop (start + z) xs) j) ≡ take start xs ++ take 21 (drop (start + z) xs)
moved_is xs start z fits j e = rw e (take-paste xs start (drop (start + z) xs) 21 (omega (arith, fits)) (omega (arith, length-drop (start + z) xs, fits)))

module _ (front : List ℕ) (start : ℕ) (at : EndsInDigits front start) where
  head_is : take start front ≡ at.before ++ at.sign
  head_is = rw (at.is, at.at) (take-append_seam (at.before ++ at.sign) at.digits)

  tail_is : (z : ℕ) → drop (start + z) front ≡ drop z at.digits
  tail_is z = rw (at.is, at.at) (drop-append-add (at.before ++ at.sign) at.digits z)

  digits_are : drop start front ≡ at.digits
  digits_are = rw (at.is, at.at) (drop-append_seam (at.before ++ at.sign) at.digits)

  count_is : length at.digits ≡ length front - start
  count_is = omega (arith, ap length at.is, length-append (at.before ++ at.sign) at.digits, at.at)

  decimal : list_all is_decimal at.digits ≡ true
  decimal = (and_parts _ _ at.are).1

  pub few_kept : length front - start ≤ 21 → HasShortEnd front
  few_kept few = subst HasShortEnd (sym at.is) (short_end at.before at.sign at.digits at.ends at.sign_is decimal (omega (arith, few, count_is)))

  module _ (new : List ℕ) (z : ℕ) (many : 21 < length front - start) (zeros : z ≡ min (position_or_len (λ b. not (eqb b 48)) (drop start front)) (length front - start - 21))
      (made : new ≡ take (start + 21) (paste front start (drop (start + z) front) (start + z + 21 - (start + z)))) where
    zeros_are : z ≡ min (position_or_len (λ b. not (eqb b 48)) at.digits) (length at.digits - 21)
    zeros_are = zeros ∙ rw (digits_are, count_is) refl

    many_are : 21 < length at.digits
    many_are = omega (arith, many, count_is)

    left_is : new ≡ (at.before ++ at.sign) ++ take 21 (drop z at.digits)
    left_is =
        let fits : start + (z + 21) ≤ length front = omega (arith, zeros, many) in
        made ∙ moved_is front start z fits (start + z + 21 - (start + z)) (omega arith) ∙ rw (head_is, tail_is z) refl

    pub moved_same : (more : List ℕ) → SaySame (fields (strip_last 13 (front ++ more))) (fields (strip_last 13 (new ++ more)))
    moved_same more =
        subst (λ (l : List ℕ). SaySame (fields (strip_last 13 (l ++ more))) (fields (strip_last 13 (new ++ more)))) (sym at.is)
        (subst (λ (l : List ℕ). SaySame (fields (strip_last 13 (((at.before ++ at.sign) ++ at.digits) ++ more))) (fields (strip_last 13 (l ++ more)))) (sym left_is)
        (shortened_same at.before at.sign at.digits more z at.ends at.behind at.sign_is decimal many_are zeros_are))

    pub moved_short : HasShortEnd new
    moved_short = subst HasShortEnd (sym left_is) (short_end at.before at.sign (take 21 (drop z at.digits)) at.ends at.sign_is (short_digits z at.digits decimal many_are zeros_are) (omega (arith, short_count z at.digits decimal many_are zeros_are)))

-- of a comment only its mark is kept
short_mark : (mark : ℕ) → is_blank mark ≡ false → HasShortEnd (mark ∷ [])
short_mark mark other e =
    let alone : All (λ b. is_blank b ≡ false) (mark ∷ []) = one in
    rw (piece_alone (mark ∷ []) alone) (omega arith)
  where
    one : All (λ b. is_blank b ≡ false) (mark ∷ [])
    one zero d l = other
    one (suc k) d l = absurd (omega (arith, l))

pub on_short_mark : {X E : Type 0} (r : Result X E) (mark judged : ℕ) (new : List ℕ) → is_blank mark ≡ false → OnOk r (new ≡ mark ∷ []) → OnOk r ((length new < 2 * judged) ⊎ HasShortEnd new)
on_short_mark (Ok done) mark judged new other made = inr (subst HasShortEnd (sym made) (short_mark mark other))
on_short_mark (Err e) mark judged new other made = tt
