-- Fields where numbers stand, and what is known of them without their bytes.
use Rattle.std.specs.Prelude.{◌≡◌, ℕ, ◌-◌, ◌^◌, ◌<◌, min, Bool, true, false, List, [], ◌∷◌, ◌++◌, length, Option, None, Some, if◌then◌else◌}
use Rattle.std.specs.List.{list_all}
use Rattle.std.specs.Option.{option_map}
use Rattle.std.specs.Str.Parse.{digits_value}
use Rattle.dimacs.specs.declared.numerals.numeral.Numeral.{Numeral}
use Rattle.dimacs.specs.Digits.{is_decimal}
use Rattle.dimacs.specs.Faults.{Row}
use Rattle.dimacs.specs.Numerals.{numeral, kept}
use Rattle.session_lines.specs.declared.fields.Field.{Field}
use Rattle.session_lines.specs.declared.fields.Field.TheVariants.{Unbegun, Minus, Number, Other}
use Rattle.session_lines.specs.declared.fields.Numbers.{Numbers}
use Rattle.session_lines.specs.declared.fields.Numbers.TheVariants.{Nothing, One, Two, Three, TooMany}

-- the numeral that a field is, if it is one, as the program keeps it
abbrev pub field_number_of : List ℕ → Option Numeral
field_number_of field = option_map kept (numeral field)

-- a minus, if there is one, and digits
abbrev pub signed_field : Bool → List ℕ → List ℕ
signed_field has_minus digits = if has_minus then 45 ∷ digits else digits

-- these are digits, and the number that they write is kept as this one
abbrev pub HasDigits : List ℕ → ℕ → Type 0
HasDigits digits size = (list_all is_decimal digits ≡ true) × (size ≡ min (digits_value 10 digits) (2 ^ 64 - 1))

-- the field is a numeral, kept as this one
pub record IsNumber (field : List ℕ) (number : Numeral) : Type 0 where
  pub digits : List ℕ
  pub some : 0 < length digits
  pub signed : field ≡ signed_field number.has_minus digits
  pub kept_as : HasDigits digits number.size

-- what is known of the front of a field
abbrev pub IsField : List ℕ → Field → Type 0
IsField field Unbegun = field ≡ []
IsField field Minus = field ≡ 45 ∷ []
IsField field (Number number) = IsNumber field number
IsField field Other = (0 < length field) × ((more : List ℕ) → numeral (field ++ more) ≡ None)

-- one field, two or three, with what each is as a number
pub record IsOne (row : Row) (a : Option Numeral) : Type 0 where
  pub field : List ℕ
  pub row_is : row ≡ field ∷ []
  pub number : a ≡ field_number_of field

pub record AreTwo (row : Row) (a b : Option Numeral) : Type 0 where
  pub first : List ℕ
  pub second : List ℕ
  pub row_is : row ≡ first ∷ second ∷ []
  pub first_number : a ≡ field_number_of first
  pub second_number : b ≡ field_number_of second

pub record AreThree (row : Row) (a b c : Option Numeral) : Type 0 where
  pub first : List ℕ
  pub second : List ℕ
  pub third : List ℕ
  pub row_is : row ≡ first ∷ second ∷ third ∷ []
  pub first_number : a ≡ field_number_of first
  pub second_number : b ≡ field_number_of second
  pub third_number : c ≡ field_number_of third

-- what is known of the fields behind a word
abbrev pub IsNumbers : Row → Numbers → Type 0
IsNumbers row Nothing = row ≡ []
IsNumbers row (One a) = IsOne row a
IsNumbers row (Two a b) = AreTwo row a b
IsNumbers row (Three a b c) = AreThree row a b c
IsNumbers row TooMany = 3 < length row

-- a field that has a byte, as a list of fields
abbrev pub as_row : List ℕ → Row
as_row [] = []
as_row (b ∷ bs) = (b ∷ bs) ∷ []

-- one numeral, two, and three
abbrev pub has_one : Numbers → Bool
has_one (One (Some n)) = true
has_one others = false

abbrev pub has_two : Numbers → Bool
has_two (Two (Some n) (Some m)) = true
has_two others = false

abbrev pub has_three : Numbers → Bool
has_three (Three (Some n) (Some m) (Some k)) = true
has_three others = false
