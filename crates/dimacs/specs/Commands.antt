-- Command texts: each line is a word and numbers, without order among the lines.
use Rattle.std.specs.Prelude.{ℕ, Bool, true, false, ◌||◌, List, [], ◌∷◌, Option, None, if◌then◌else◌}
use Rattle.std.specs.List.{find}
use Rattle.std.specs.Option.{option_map_or}
use Rattle.std.specs.Str.{bytes_eq}
use lib.Chars.{codes}
use Rattle.dimacs.specs.declared.numerals.numeral.Numeral.{Numeral}
use Rattle.dimacs.specs.declared.fault.Code.{Code}
use Rattle.dimacs.specs.declared.fault.Code.TheVariants.{BadLine, NumberRange}
use Rattle.dimacs.specs.Faults.{Row, has_first, is_empty, is_remark, is_malformed, is_unreadable, some_numeral, item_fields}

-- a word, and how many numbers follow it
pub record Form : Type 0 where
  pub word : List ℕ
  pub numbers : ℕ

abbrev pub form : List ℕ → ℕ → Form
form word n = record { word = word; numbers = n }

abbrev pub commands : List Form
commands = form (codes "set") 2 ∷ form (codes "close") 1 ∷ form (codes "reopen") 1 ∷ form (codes "mark") 1 ∷ form (codes "unmark") 1 ∷ form (codes "lay") 3 ∷ []

-- the form of a line by its first field
abbrev pub form_of : List Form → Row → Option Form
form_of forms row = find (λ f. has_first (λ first. bytes_eq first f.word) row) forms

abbrev pub is_refused : Numeral → Bool
is_refused n = n.has_minus || is_unreadable n

-- The table of faults of a command line.
abbrev pub command_applies : List Form → Row → Code → Bool
command_applies forms row BadLine = option_map_or (λ f. is_malformed f.numbers (item_fields row)) (form_of forms row) true
command_applies forms row NumberRange = option_map_or (λ f. some_numeral is_refused (item_fields row)) (form_of forms row) false
command_applies forms row code = false

unfoldable pub command_code : List Form → List Row → Row → Option Code
command_code forms earlier row = if is_empty row || is_remark 35 row then None else find (command_applies forms row) (BadLine ∷ NumberRange ∷ [])
