-- Fronts of lines that end in a numeral.
use Rattle.std.specs.Prelude.{◌≡◌, ◌<◌, ◌≤◌, ◌⊎◌, ℕ, Bool, true, ◌&&◌, List, [], ◌∷◌, ◌++◌, length, unwrap_or, None, is_some, nat_lt}
use Rattle.std.specs.List.{last_or, slice_split}
use Rattle.dimacs.specs.Digits.{are_digits}
use Rattle.dimacs.specs.Lines.{is_blank, fields}
use Rattle.dimacs.specs.Numerals.{numeral}
use Rattle.dimacs.specs.Overflow.{EndsInBlank}

-- what stands behind the last blank
abbrev pub last_piece : List ℕ → List ℕ
last_piece front = unwrap_or (last_or None (slice_split is_blank front)) []

-- it is a numeral, and stands behind another field
abbrev pub ends_in_numeral : List ℕ → Bool
ends_in_numeral front = is_some (numeral (last_piece front)) && nat_lt 1 (length (fields front))

-- the digits of such a numeral begin here
pub record EndsInDigits (front : List ℕ) (start : ℕ) : Type 0 where
  pub before : List ℕ
  pub sign : List ℕ
  pub digits : List ℕ
  pub is : front ≡ (before ++ sign) ++ digits
  pub at : start ≡ length (before ++ sign)
  pub ends : EndsInBlank before
  pub behind : 0 < length (fields before)
  pub sign_is : (sign ≡ []) ⊎ (sign ≡ 45 ∷ [])
  pub are : are_digits digits ≡ true

-- it has a minus and 21 digits at most: a size of 64 bits has 20
abbrev pub HasShortEnd : List ℕ → Type 0
HasShortEnd front = ends_in_numeral front ≡ true → length (last_piece front) ≤ 22
