-- One line of a command text, read from left to right.
use Rattle.std.specs.Prelude.{◌≡◌, ℕ, ◌||◌, true, false, List, ◌∷◌, Option, None, Some, Result, Ok, Err, if◌then◌else◌}
use lib.Chars.{codes}
use Rattle.roadnet.specs.declared.commands.Command.{Command}
use Rattle.dimacs.specs.declared.commands.group_lines.Bound.{Bound}
use Rattle.dimacs.specs.declared.commands.group_lines.Bound.TheVariants.{Begin, End, Other}
use Rattle.dimacs.specs.declared.commands.group_lines.GroupLines.{GroupLines}
use Rattle.dimacs.specs.declared.commands.group_lines.GroupLineKind.{GroupLineKind}
use Rattle.dimacs.specs.declared.commands.group_lines.GroupLineKind.TheVariants.{Ignored, Set, Lay, One, Unknown}
use Rattle.dimacs.specs.declared.numerals.numeral.Numeral.{Numeral}
use Rattle.dimacs.specs.declared.fault.Code.{Code}
use Rattle.dimacs.specs.declared.fault.Code.TheVariants.{BadLine, NumberRange}
use Rattle.dimacs.specs.Lines.{fields}
use Rattle.dimacs.specs.Faults.{Row, is_empty, is_remark}
use Rattle.dimacs.specs.Commands.{commands, command_code, form_of, is_refused}
use Rattle.dimacs.specs.Commanded.{Grouping, begins, command_of, ends, grouping_of}
use Rattle.dimacs.specs.Spelling.{one_spelling}

abbrev pub IsGroupLineKind : Row → GroupLineKind → Type 0
IsGroupLineKind row Ignored = (is_empty row || is_remark 35 row) ≡ true
IsGroupLineKind row (Set numbers) = row ≡ codes "set" ∷ fields numbers.now
IsGroupLineKind row (Lay numbers) = row ≡ codes "lay" ∷ fields numbers.now
IsGroupLineKind row (One word numbers) = row ≡ one_spelling word ∷ fields numbers.now
IsGroupLineKind row Unknown = ((is_empty row || is_remark 35 row) ≡ false) × (form_of commands row ≡ None)

-- one number, and two
abbrev pub number_read : Option Numeral → Result ℕ Code
number_read None = Err BadLine
number_read (Some n) = if is_refused n then Err NumberRange else Ok n.size

abbrev pub numbers_read : Option (Numeral × Numeral) → Result (ℕ × ℕ) Code
numbers_read None = Err BadLine
numbers_read (Some both) = if is_refused both.0 || is_refused both.1 then Err NumberRange else Ok (both.0.size, both.1.size)

abbrev pub three_read : Option (Numeral × Numeral × Numeral) → Result (ℕ × ℕ × ℕ) Code
three_read None = Err BadLine
three_read (Some all) = if is_refused all.0 || (is_refused all.1 || is_refused all.2) then Err NumberRange else Ok (all.0.size, all.1.size, all.2.size)

-- the line has no fault and says this, or its code is told
abbrev pub ReadsCommandLine : Row → Result (Option Command) Code → Type 0
ReadsCommandLine row (Ok command) = ((earlier : List Row) → command_code commands earlier row ≡ None) × (command_of row ≡ command)
ReadsCommandLine row (Err code) = (earlier : List Row) → command_code commands earlier row ≡ Some code

-- whether a line begins a group or ends one
abbrev pub IsGroupBound : Row → Bound → Type 0
IsGroupBound row (Begin rest) = row ≡ codes "begin" ∷ fields rest.now
IsGroupBound row (End rest) = row ≡ codes "end" ∷ fields rest.now
IsGroupBound row Other = (begins row ≡ false) × (ends row ≡ false)

abbrev pub taken_grouping : GroupLines → Grouping
taken_grouping taken = record { closed = taken.closed.items; opened = taken.open }

-- these lines were taken
abbrev pub HasGroups : List Row → GroupLines → Type 0
HasGroups lines taken = taken_grouping taken ≡ grouping_of lines
