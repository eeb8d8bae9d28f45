-- One line of a text of nodes, read from left to right.
use Rattle.std.specs.Prelude.{ℕ, ◌^◌, Bool, ◌||◌, List, drop, Option, None, Some, Result, Ok, Err, if◌then◌else◌}
use Rattle.std.specs.List.{starts_with}
use Rattle.std.specs.Str.{bytes_eq}
use Rattle.dimacs.specs.declared.numerals.numeral.Numeral.{Numeral}
use Rattle.dimacs.specs.declared.fault.Code.{Code}
use Rattle.dimacs.specs.declared.fault.Code.TheVariants.{BadLine, SecondProblemLine, WrongKind, NumberRange, NodeRange, TooLarge}
use Rattle.dimacs.specs.declared.lists.pairs.Pair.{Pair}
use Rattle.dimacs.specs.Faults.{Row, is_unreadable, is_under, is_over}
use Rattle.dimacs.specs.Listed.{kind_words}
use Rattle.dimacs.specs.Reading.{one_numeral, is_outside}

abbrev pub count_of_numeral : Numeral → Result ℕ Code
count_of_numeral count = if is_unreadable count || is_under 0 count then Err NumberRange else (if is_over (2 ^ 24) count then Err TooLarge else Ok count.size)

abbrev pub count_read : Bool → Option Numeral → Result ℕ Code
count_read has_problem None = Err BadLine
count_read has_problem (Some count) = if has_problem then Err SecondProblemLine else count_of_numeral count

-- what a problem line announces, by the fields after `p`
abbrev pub count_after : List ℕ → Bool → Row → Result ℕ Code
count_after word has_problem words =
    if starts_with bytes_eq words (kind_words word) then count_read has_problem (one_numeral (drop 3 words))
    else (if has_problem then Err SecondProblemLine else Err WrongKind)

-- the node of a numeral
abbrev pub node_of_numeral : ℕ → Numeral → Result ℕ Code
node_of_numeral nodes x = if is_unreadable x then Err NumberRange else (if is_outside 1 nodes x then Err NodeRange else Ok x.size)

abbrev pub node_read : ℕ → Option Numeral → Option (Result ℕ Code)
node_read nodes None = None
node_read nodes (Some x) = Some (node_of_numeral nodes x)

-- the pair of two numerals
abbrev pub pair_of_numerals : ℕ → Numeral → Numeral → Result Pair Code
pair_of_numerals nodes source target =
    if is_unreadable source || is_unreadable target then Err NumberRange
    else (if is_outside 1 nodes source || is_outside 1 nodes target then Err NodeRange
    else Ok (record { source = source.size; target = target.size }))

abbrev pub pair_read : ℕ → Option (Numeral × Numeral) → Option (Result Pair Code)
pair_read nodes None = None
pair_read nodes (Some ends) = Some (pair_of_numerals nodes ends.0 ends.1)
