-- Fields where numbers stand, with one more byte.
use Rattle.std.proofs.Common.{◌≡◌, ◌≢◌, ◌∙◌, ℕ, ◌+◌, ◌-◌, ◌*◌, ◌^◌, ◌<◌, ◌≤◌, min, Bool, true, false, ◌&&◌, ltb, List, [], ◌∷◌, ◌++◌, Option, None, Some, length, refl, sym, ap, subst, arith, append_assoc}
use Rattle.std.specs.List.{list_all}
use Rattle.std.specs.Char.{digit_value}
use Rattle.std.specs.Str.Parse.{starts_with_minus, digits_value}
use Rattle.std.proofs.lemmas.Bool.{lt-ltb, ltb-true, le-ltb, ne_eqb, false_from_ne_true}
use Rattle.std.proofs.lemmas.Str.Parse.{digit_from_value}
use Rattle.std.proofs.lemmas.List.{append-nil, length-append}
use Rattle.std.proofs.lemmas.List.Folds.{list_all-append}
use Rattle.std.proofs.lemmas.Int.Digits.{digits_value_push}
use Rattle.dimacs.specs.declared.numerals.numeral.Numeral.{Numeral}
use Rattle.dimacs.specs.Digits.{is_decimal, are_digits}
use Rattle.dimacs.specs.Faults.{Row}
use Rattle.dimacs.specs.Numerals.{numeral}
use Rattle.session_lines.specs.declared.fields.Field.{Field}
use Rattle.session_lines.specs.declared.fields.Field.TheVariants.{Minus, Number, Other}
use Rattle.session_lines.specs.declared.fields.Numbers.{Numbers}
use Rattle.session_lines.specs.declared.fields.Numbers.TheVariants.{One, Two, Three, TooMany}
use Rattle.session_lines.specs.Fields.{HasDigits, IsField, IsNumber, IsNumbers, as_row, field_number_of, signed_field}

decimal_value : (c : ℕ) → 48 ≤ c → c ≤ 57 → digit_value c ≡ c - 48
decimal_value c low high =
    let least : ltb c 48 ≡ false = le-ltb c 48 low in
    let most : ltb c 58 ≡ true = lt-ltb c 58 (omega arith) in
    rw (least, most) refl

is_decimal_from : (c : ℕ) → 48 ≤ c → c ≤ 57 → is_decimal c ≡ true
is_decimal_from c low high = lt-ltb (digit_value c) 10 (rw (decimal_value c low high) (omega arith))

capped : (most v s d r : ℕ) → s ≡ min v most → r ≡ min (min (s * 10) most + d) most → r ≡ min (v * 10 + d) most
capped most v s d r e f = omega arith

-- one more digit
pub more_digits : (digits : List ℕ) (c s r : ℕ) → 48 ≤ c → c ≤ 57 → HasDigits digits s → r ≡ min (min (s * 10) (2 ^ 64 - 1) + (c - 48)) (2 ^ 64 - 1) → HasDigits (digits ++ c ∷ []) r
more_digits digits c s r low high has e = (
  list_all-append is_decimal digits (c ∷ []) ∙ rw (has.0, is_decimal_from c low high) refl,
  rw (digits_value_push 10 digits c, decimal_value c low high) (capped (2 ^ 64 - 1) (digits_value 10 digits) s (c - 48) r has.1 e),
)

pub number_of_digits : (has_minus : Bool) (digits : List ℕ) (c s r : ℕ) → 48 ≤ c → c ≤ 57 → HasDigits digits s → r ≡ min (min (s * 10) (2 ^ 64 - 1) + (c - 48)) (2 ^ 64 - 1)
    → IsField (signed_field has_minus (digits ++ c ∷ [])) (Number (record { has_minus = has_minus; size = r }))
number_of_digits has_minus digits c s r low high has e = record {
  digits = digits ++ c ∷ [];
  some = omega (arith, length-append digits (c ∷ []));
  signed = refl;
  kept_as = more_digits digits c s r low high has e;
}

-- a byte that is no digit, behind what may be digits
no_digits : (digits more : List ℕ) (c : ℕ) → is_decimal c ≡ false → are_digits ((digits ++ c ∷ []) ++ more) ≡ false
no_digits digits more c other =
    let inner : list_all is_decimal (digits ++ c ∷ []) ≡ false = list_all-append is_decimal digits (c ∷ []) ∙ rw other (and_no (list_all is_decimal digits)) in
    let whole : list_all is_decimal ((digits ++ c ∷ []) ++ more) ≡ false = list_all-append is_decimal (digits ++ c ∷ []) more ∙ rw inner refl in
    rw whole (and_no (ltb 0 (length ((digits ++ c ∷ []) ++ more))))
  where
    and_no : (b : Bool) → (b && false) ≡ false
    and_no true = refl
    and_no false = refl

no_minus : (d : ℕ) (ds : List ℕ) → d ≢ 45 → starts_with_minus (d ∷ ds) ≡ false
no_minus d ds other = ne_eqb d 45 other

digit_no_minus : (d : ℕ) → is_decimal d ≡ true → d ≢ 45
digit_no_minus d e same = let clash : is_decimal 45 ≡ true = subst (λ x. is_decimal x ≡ true) same e in absurd cc

and_first : (a b : Bool) → (a && b) ≡ true → a ≡ true
and_first true b e = refl
and_first false b e = absurd cc

-- what is written without a minus does not begin with one
plain_begins : (digits more : List ℕ) (c : ℕ) → list_all is_decimal digits ≡ true → (digits ≡ [] → c ≢ 45) → starts_with_minus ((digits ++ c ∷ []) ++ more) ≡ false
plain_begins [] more c all first = no_minus c more (first refl)
plain_begins (d ∷ ds) more c all first = no_minus d ((ds ++ c ∷ []) ++ more) (digit_no_minus d (and_first (is_decimal d) (list_all is_decimal ds) all))

pub other_field : (has_minus : Bool) (digits : List ℕ) (c : ℕ) → is_decimal c ≡ false → list_all is_decimal digits ≡ true → (signed_field has_minus digits ≡ [] → c ≢ 45)
    → IsField (signed_field has_minus (digits ++ c ∷ [])) Other
other_field true digits c other all first = (omega arith, λ more. rw (no_digits digits more c other) refl)
other_field false digits c other all first =
    (omega (arith, length-append digits (c ∷ [])), λ more. rw (plain_begins digits more c all first, no_digits digits more c other) refl)

pub other_byte : (has_minus : Bool) (digits : List ℕ) (c size : ℕ) → (48 ≤ c → c ≤ 57 → ⊥) → HasDigits digits size → (signed_field has_minus digits ≡ [] → c ≢ 45)
    → IsField (signed_field has_minus (digits ++ c ∷ [])) Other
other_byte has_minus digits c size other has first =
    let none : is_decimal c ≡ false = false_from_ne_true (is_decimal c) (λ e. let range = digit_from_value c (ltb-true (digit_value c) 10 e) in absurd (other range.0 range.1)) in
    other_field has_minus digits c none has.0 first

-- ---- a field with one more byte
pub begun_minus : (field : List ℕ) → field ≡ [] → IsField (field ++ 45 ∷ []) Minus
begun_minus field e = rw e refl

pub begun : (field : List ℕ) (c : ℕ) (new : Field) → field ≡ [] → c ≢ 45
    → ((digits : List ℕ) → HasDigits digits 0 → (signed_field false digits ≡ [] → c ≢ 45) → IsField (signed_field false (digits ++ c ∷ [])) new) → IsField (field ++ c ∷ []) new
begun field c new e other with_digit = rw e (with_digit [] (refl, refl) (λ _. other))

pub behind_minus : (field : List ℕ) (c : ℕ) (new : Field) → field ≡ 45 ∷ []
    → ((digits : List ℕ) → HasDigits digits 0 → (signed_field true digits ≡ [] → c ≢ 45) → IsField (signed_field true (digits ++ c ∷ [])) new) → IsField (field ++ c ∷ []) new
behind_minus field c new e with_digit = rw e (with_digit [] (refl, refl) (λ none. absurd cc))

signed_more : (has_minus : Bool) (digits : List ℕ) (c : ℕ) → signed_field has_minus digits ++ c ∷ [] ≡ signed_field has_minus (digits ++ c ∷ [])
signed_more true digits c = refl
signed_more false digits c = refl

signed_some : (has_minus : Bool) (digits : List ℕ) → 0 < length digits → signed_field has_minus digits ≡ [] → ⊥
signed_some true digits some none = cc
signed_some false digits some none = omega (arith, some, ap length none)

pub behind_number : (field : List ℕ) (n : Numeral) (c : ℕ) (new : Field) → IsNumber field n
    → ((digits : List ℕ) → HasDigits digits n.size → (signed_field n.has_minus digits ≡ [] → c ≢ 45) → IsField (signed_field n.has_minus (digits ++ c ∷ [])) new) → IsField (field ++ c ∷ []) new
behind_number field n c new is with_digit =
    let made = with_digit is.digits is.kept_as (λ none. absurd (signed_some n.has_minus is.digits is.some none)) in
    rw (is.signed, signed_more n.has_minus is.digits c) made

pub still_other : (field : List ℕ) (c : ℕ) → IsField field Other → IsField (field ++ c ∷ []) Other
still_other field c is = (omega (arith, is.0, length-append field (c ∷ [])), λ more. rw (append_assoc field (c ∷ []) more) (is.1 (c ∷ more)))

-- ---- the numeral that a field is
starts_plain : (digits : List ℕ) → 0 < length digits → list_all is_decimal digits ≡ true → starts_with_minus digits ≡ false
starts_plain [] some all = absurd (omega (arith, some))
starts_plain (d ∷ ds) some all = no_minus d ds (digit_no_minus d (and_first (is_decimal d) (list_all is_decimal ds) all))

read_as : (has_minus : Bool) (digits : List ℕ) (size : ℕ) → 0 < length digits → HasDigits digits size → field_number_of (signed_field has_minus digits) ≡ Some (record { has_minus = has_minus; size = size })
read_as true digits size some has =
    let are : are_digits digits ≡ true = rw (lt-ltb 0 (length digits) some, has.0) refl in
    rw (are, has.1) refl
read_as false digits size some has =
    let are : are_digits digits ≡ true = rw (lt-ltb 0 (length digits) some, has.0) refl in
    rw (starts_plain digits some has.0, are, has.1) refl

pub number_is : (field : List ℕ) (n : Numeral) → IsNumber field n → Some n ≡ field_number_of field
number_is field n is = rw is.signed (sym (read_as n.has_minus is.digits n.size is.some is.kept_as))

pub no_number : (field : List ℕ) → IsField field Other → None ≡ field_number_of field
no_number field is = let none : numeral field ≡ None = rw (append-nil field) at (is.1 []) in rw none refl

-- ---- one more field
pub one_more : (row : Row) (field : List ℕ) (a : Option Numeral) → row ≡ [] → a ≡ field_number_of field → IsNumbers (row ++ field ∷ []) (One a)
one_more row field a none is = record { field = field; row_is = rw none refl; number = is }

pub two_now : (row : Row) (field : List ℕ) (a b : Option Numeral) → IsNumbers row (One a) → b ≡ field_number_of field → IsNumbers (row ++ field ∷ []) (Two a b)
two_now row field a b one is = record { first = one.field; second = field; row_is = rw one.row_is refl; first_number = one.number; second_number = is }

pub three_now : (row : Row) (field : List ℕ) (a b c : Option Numeral) → IsNumbers row (Two a b) → c ≡ field_number_of field → IsNumbers (row ++ field ∷ []) (Three a b c)
three_now row field a b c two is = record { first = two.first; second = two.second; third = field; row_is = rw two.row_is refl; first_number = two.first_number; second_number = two.second_number; third_number = is }

pub too_many : (row : Row) (field : List ℕ) → 2 < length row → IsNumbers (row ++ field ∷ []) TooMany
too_many row field some = omega (arith, some, length-append row (field ∷ []))

pub three_count : (row : Row) (a b c : Option Numeral) → IsNumbers row (Three a b c) → 2 < length row
three_count row a b c are = omega (arith, ap length are.row_is)

pub no_field : (row : Row) (last : List ℕ) (numbers : Numbers) → last ≡ [] → IsNumbers row numbers → IsNumbers (row ++ as_row last) numbers
no_field row last numbers none are = rw (none, append-nil row) are

pub as_one : (last : List ℕ) → 0 < length last → as_row last ≡ last ∷ []
as_one [] some = absurd (omega (arith, some))
as_one (b ∷ bs) some = refl

-- a field that ends is one more
module _ (row : Row) (last : List ℕ) (old new : Numbers) (numbers : IsNumbers row old) where
  one_ended : (a : Option Numeral) → 0 < length last → a ≡ field_number_of last
      → ((r : Row) (f : List ℕ) → IsNumbers r old → a ≡ field_number_of f → IsNumbers (r ++ f ∷ []) new) → IsNumbers (row ++ as_row last) new
  one_ended a some is and = rw (as_one last some) (and row last numbers is)

  pub minus_ended : IsField last Minus → ((r : Row) (f : List ℕ) → IsNumbers r old → None ≡ field_number_of f → IsNumbers (r ++ f ∷ []) new) → IsNumbers (row ++ as_row last) new
  minus_ended is and = one_ended None (rw is (omega arith)) (rw is refl) and

  pub number_ended : (n : Numeral) → IsField last (Number n) → ((r : Row) (f : List ℕ) → IsNumbers r old → Some n ≡ field_number_of f → IsNumbers (r ++ f ∷ []) new) → IsNumbers (row ++ as_row last) new
  number_ended n is and = one_ended (Some n) (signed_length n.has_minus is.digits is.some is.signed) (number_is last n is) and
    where
      signed_length : (has_minus : Bool) (digits : List ℕ) → 0 < length digits → last ≡ signed_field has_minus digits → 0 < length last
      signed_length true digits some e = rw e (omega arith)
      signed_length false digits some e = rw e some

  pub other_ended : IsField last Other → ((r : Row) (f : List ℕ) → IsNumbers r old → None ≡ field_number_of f → IsNumbers (r ++ f ∷ []) new) → IsNumbers (row ++ as_row last) new
  other_ended is and = one_ended None is.0 (no_number last is) and
