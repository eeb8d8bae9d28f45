-- Lines that have more fields than a line of any text, or a longer word than any text.
use Rattle.std.specs.Prelude.{◌≡◌, ℕ, Bool, true, false, not, ◌&&◌, ◌||◌, List, [], ◌∷◌, ◌++◌, All, length, drop, Some, is_none, nat_lt, nat_le, ◌==◌, if◌then◌else◌}
use Rattle.std.specs.List.{list_all}
use Rattle.std.specs.Str.Parse.{starts_with_minus}
use Rattle.std.specs.Io.BufRead.{strip_last}
use Rattle.dimacs.specs.declared.fault.Code.{Code}
use Rattle.dimacs.specs.declared.fault.Code.TheVariants.{BadLine, SecondProblemLine, WrongKind}
use Rattle.dimacs.specs.Digits.{is_decimal}
use Rattle.dimacs.specs.Lines.{fields, is_blank}
use Rattle.dimacs.specs.Format.{Format}
use Rattle.dimacs.specs.Faults.{Row, Judge, is_problem, has_kind, problem_of}
use Rattle.dimacs.specs.Joint.{is_run}

-- a byte is no digit, a minus in front apart
abbrev pub has_other_byte : List ℕ → Bool
has_other_byte field = if starts_with_minus field then not (list_all is_decimal (drop 1 field)) else not (list_all is_decimal field)

-- a field that stands behind so many others is one too many, or it is longer than any word and stands where a word must, or is no numeral
abbrev pub is_beyond : ℕ → List ℕ → Bool
is_beyond before field = nat_le 16 before || (nat_lt 16 (length field) && ((before == 0) || has_other_byte field))

abbrev pub overflows : Row → List ℕ → Bool
overflows before field = is_beyond (length before) field

-- the fields of a line go over in the one that follows these
abbrev pub OverflowsBehind : Row → Row → Type 0
OverflowsBehind before row = (field : List ℕ) × (after : Row) × (row ≡ before ++ field ∷ after) × (overflows before field ≡ true)

-- each line that begins with this front does so behind the same fields
abbrev pub Overflowing : List ℕ → Type 0
Overflowing front = (before : Row) × ((more : List ℕ) → OverflowsBehind before (fields (front ++ more)))

-- the fields of a line that begins with a front, whose first field may go on where nothing follows it
abbrev pub LineGoesOn : List ℕ → List ℕ → List ℕ → List ℕ → Type 0
LineGoesOn front first [] more = (tail : List ℕ) × (others : Row) × (fields (front ++ more) ≡ (first ++ tail) ∷ others)
LineGoesOn front first (b ∷ rest) more = fields (front ++ more) ≡ first ∷ fields ((b ∷ rest) ++ more)

-- whatever stands before, the line has this code
abbrev pub bad_line : List Row → Row → Code
bad_line earlier before = BadLine

-- the code of a DIMACS line that overflows behind these fields
abbrev pub code_after_fields : Format → List Row → Row → Code
code_after_fields f earlier before = if is_problem before && not (has_kind f before)
    then (if is_none (problem_of earlier) then WrongKind else SecondProblemLine) else BadLine

-- each line that begins with this front has this fault, and none of them is the line `run`
abbrev pub IsFaultOfFront : Judge → List Row → List ℕ → Code → Type 0
IsFaultOfFront judge earlier front code = (more : List ℕ) → (judge earlier (fields (strip_last 13 (front ++ more))) ≡ Some code) × (is_run (fields (strip_last 13 (front ++ more))) ≡ false)

-- blanks stand in front of the rest
abbrev pub IsBlankFront : List ℕ → List ℕ → Type 0
IsBlankFront piece rest = (blanks : List ℕ) × (piece ≡ blanks ++ rest) × All (λ b. is_blank b ≡ true) blanks

abbrev pub EndsInBlank : List ℕ → Type 0
EndsInBlank line = (front : List ℕ) × (blank : ℕ) × (line ≡ front ++ blank ∷ []) × (is_blank blank ≡ true)
