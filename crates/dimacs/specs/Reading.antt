-- One line of a `.gr` text, read from left to right.
use Rattle.std.specs.Prelude.{ℕ, true, Bool, ◌||◌, [], ◌∷◌, length, drop, Option, None, Some, Result, Ok, Err, nat_le, if◌then◌else◌}
use Rattle.std.specs.Option.{option_map, option_and_then}
use Rattle.std.specs.List.{starts_with}
use Rattle.std.specs.Str.{bytes_eq}
use lib.Chars.{codes}
use Rattle.dimacs.specs.declared.numerals.numeral.Numeral.{Numeral}
use Rattle.dimacs.specs.declared.fault.Code.{Code}
use Rattle.dimacs.specs.declared.fault.Code.TheVariants.{BadLine, NoProblemLine, SecondProblemLine, WrongKind, NumberRange, NodeRange, LengthRange, LineCount, TooLarge}
use Rattle.roadnet.specs.declared.arcs.RoadArc.{RoadArc}
use Rattle.dimacs.specs.declared.graphs.problem.Problem.{Problem}
use Rattle.roadnet.specs.Net.{most_nodes, most_arcs, longest_arc}
use Rattle.dimacs.specs.Numerals.{numeral, kept}
use Rattle.dimacs.specs.Faults.{Row, is_empty, is_unreadable, is_under, is_over}

-- the first field as a numeral, and the other fields
abbrev pub first_numeral : Row → Option (Numeral × Row)
first_numeral [] = None
first_numeral (field ∷ others) = option_map (λ n. (kept n, others)) (numeral field)

-- one numeral, two or three, and no other field
abbrev pub one_numeral : Row → Option Numeral
one_numeral row = option_and_then (λ a. if is_empty a.1 then Some a.0 else None) (first_numeral row)

abbrev pub two_numerals : Row → Option (Numeral × Numeral)
two_numerals row = option_and_then (λ a. option_and_then (λ b. if is_empty b.1 then Some (a.0, b.0) else None) (first_numeral a.1)) (first_numeral row)

abbrev pub three_numerals : Row → Option (Numeral × Numeral × Numeral)
three_numerals row = option_and_then (λ a. option_and_then (λ b. option_and_then (λ c. if is_empty c.1 then Some (a.0, b.0, c.0) else None) (first_numeral b.1)) (first_numeral a.1)) (first_numeral row)

abbrev pub is_outside : ℕ → ℕ → Numeral → Bool
is_outside least most n = is_under least n || is_over most n

abbrev pub arc_of_numerals : Problem → ℕ → Numeral → Numeral → Numeral → Result RoadArc Code
arc_of_numerals p taken tail head length =
    if is_unreadable tail || (is_unreadable head || is_unreadable length) then Err NumberRange
    else (if is_outside 1 p.nodes tail || is_outside 1 p.nodes head then Err NodeRange
    else (if is_outside 0 longest_arc length then Err LengthRange
    else (if nat_le p.items taken then Err LineCount
    else Ok (record { tail = tail.size; head = head.size; length = length.size; opened = true }))))

-- the arc of an item line, after so many items
abbrev pub item_after : Option Problem → ℕ → Option (Numeral × Numeral × Numeral) → Result RoadArc Code
item_after problem taken None = Err BadLine
item_after None taken (Some numbers) = Err NoProblemLine
item_after (Some p) taken (Some numbers) = arc_of_numerals p taken numbers.0 numbers.1 numbers.2

abbrev pub problem_of_numerals : Numeral → Numeral → Result Problem Code
problem_of_numerals nodes items =
    if is_unreadable nodes || is_unreadable items then Err NumberRange
    else (if is_under 1 nodes || is_under 0 items then Err NumberRange
    else (if is_over most_nodes nodes || is_over most_arcs items then Err TooLarge
    else Ok (record { nodes = nodes.size; items = items.size })))

abbrev pub counted_problem : Bool → Option (Numeral × Numeral) → Result Problem Code
counted_problem has_problem None = Err BadLine
counted_problem has_problem (Some counts) = if has_problem then Err SecondProblemLine else problem_of_numerals counts.0 counts.1

-- what a problem line announces, by the fields after `p`
abbrev pub problem_after : Bool → Row → Result Problem Code
problem_after has_problem words =
    if starts_with bytes_eq words (codes "sp" ∷ []) then counted_problem has_problem (two_numerals (drop 1 words))
    else (if has_problem then Err SecondProblemLine else Err WrongKind)
