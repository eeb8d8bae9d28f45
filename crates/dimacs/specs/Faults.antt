-- Which faults a line has after earlier lines, and the first fault of a text.
use Rattle.std.specs.Prelude.{ℕ, ◌+◌, ◌-◌, ◌^◌, Bool, true, false, not, ◌&&◌, ◌||◌, List, [], ◌∷◌, ◌++◌, length, drop, map, Option, None, Some, unwrap_or, is_none, nat_lt, nat_le, ◌==◌, slice_index, if◌then◌else◌}
use Rattle.std.specs.List.{list_any, find, count_by, zip, starts_with, last_or}
use Rattle.std.specs.Option.{option_map_or, option_map}
use Rattle.std.specs.Str.{bytes_eq}
use lib.Chars.{codes}
use Rattle.dimacs.specs.declared.numerals.numeral.Numeral.{Numeral}
use Rattle.dimacs.specs.declared.fault.Code.{Code}
use Rattle.dimacs.specs.declared.fault.Code.TheVariants.{BadLine, NoProblemLine, SecondProblemLine, WrongKind, NumberRange, NodeRange, LengthRange, LineCount, TooLarge, Read, OutOfMemory, GroupSize, OpenGroup}
use Rattle.dimacs.specs.declared.fault.Fault.{Fault}
use Rattle.roadnet.specs.Net.{longest_arc}
use Rattle.dimacs.specs.Format.{Format, Quantity, Node, Length}
use Rattle.dimacs.specs.Numerals.{numeral}

-- a line, as its fields
abbrev pub Row : Type 0
Row = List (List ℕ)

-- The kinds of line.

abbrev pub has_first : (List ℕ → Bool) → Row → Bool
has_first test [] = false
has_first test (first ∷ others) = test first

abbrev pub is_empty : Row → Bool
is_empty [] = true
is_empty (first ∷ others) = false

-- the first byte that is not blank is the mark
abbrev pub is_remark : ℕ → Row → Bool
is_remark mark row = has_first (λ first. nat_lt 0 (length first) && (slice_index first 0 == mark)) row

-- a comment of a DIMACS text begins with `c`
abbrev pub is_comment : Row → Bool
is_comment row = is_remark 99 row

abbrev pub is_problem : Row → Bool
is_problem row = has_first (λ first. bytes_eq first (codes "p")) row

abbrev pub is_item : Format → Row → Bool
is_item f row = has_first (λ first. bytes_eq first f.item) row

abbrev pub is_unknown : Format → Row → Bool
is_unknown f row = not (is_empty row || is_comment row || is_problem row || is_item f row)

-- a problem line with the kind words of this format
abbrev pub has_kind : Format → Row → Bool
has_kind f row = is_problem row && starts_with bytes_eq (drop 1 row) f.kind

-- where its counts stand, and where the numbers of an item line stand
abbrev pub count_fields : Format → Row → Row
count_fields f row = drop (1 + length f.kind) row

abbrev pub item_fields : Row → Row
item_fields row = drop 1 row

-- Tests of the fields where numbers stand.

-- not n fields, or one of them no numeral
abbrev pub is_malformed : ℕ → Row → Bool
is_malformed n numbers = not (length numbers == n) || list_any (λ field. is_none (numeral field)) numbers

-- one of them a numeral that passes the test
abbrev pub some_numeral : (Numeral → Bool) → Row → Bool
some_numeral test numbers = list_any (λ field. option_map_or test (numeral field) false) numbers

-- one of them a numeral that passes the test of what stands at its place
abbrev pub some_at : {X : Type 0} → (X → Numeral → Bool) → List X → Row → Bool
some_at test places numbers = list_any (λ p. option_map_or (test p.0) (numeral p.1) false) (zip places numbers)

-- a size above 2^63 - 1
abbrev pub is_unreadable : Numeral → Bool
is_unreadable n = nat_lt (2 ^ 63 - 1) n.size

-- below the least, above the most
abbrev pub is_under : ℕ → Numeral → Bool
is_under least n = if n.has_minus then nat_lt 0 (n.size + least) else nat_lt n.size least

abbrev pub is_over : ℕ → Numeral → Bool
is_over most n = if n.has_minus then false else nat_lt most n.size

abbrev pub is_no_node : ℕ → Quantity → Numeral → Bool
is_no_node nodes Node n = is_under 1 n || is_over nodes n
is_no_node nodes Length n = false

abbrev pub is_no_length : Quantity → Numeral → Bool
is_no_length Node n = false
is_no_length Length n = is_under 0 n || is_over longest_arc n

-- What lines announce and hold.

abbrev pub problem_of : List Row → Option Row
problem_of rows = find is_problem rows

abbrev pub size_of : List ℕ → ℕ
size_of field = option_map_or (λ n. n.size) (numeral field) 0

-- the counts of the problem line
abbrev pub announced : Format → List Row → List ℕ
announced f rows = option_map_or (λ row. map size_of (count_fields f row)) (problem_of rows) []

abbrev pub announced_items : Format → List Row → ℕ
announced_items f rows = unwrap_or (last_or None (announced f rows)) 0

abbrev pub announced_nodes_of : Format → List Row → ℕ
announced_nodes_of f rows = unwrap_or f.nodes (slice_index (announced f rows) 0)

abbrev pub items_of : Format → List Row → ℕ
items_of f rows = count_by (is_item f) rows

-- The table of faults: which codes apply to a line after earlier lines.
unfoldable pub applies : Format → List Row → Row → Code → Bool
applies f earlier row BadLine = is_unknown f row
    || (is_item f row && is_malformed (length f.numbers) (item_fields row))
    || (has_kind f row && is_malformed (length f.counts) (count_fields f row))
applies f earlier row NoProblemLine = is_item f row && is_none (problem_of earlier)
applies f earlier row SecondProblemLine = is_problem row && not (is_none (problem_of earlier))
applies f earlier row WrongKind = is_problem row && not (has_kind f row)
applies f earlier row NumberRange = (is_item f row && some_numeral is_unreadable (item_fields row))
    || (has_kind f row && some_numeral is_unreadable (count_fields f row))
    || (has_kind f row && some_at (λ range. is_under range.least) f.counts (count_fields f row))
applies f earlier row NodeRange = is_item f row && some_at (is_no_node (announced_nodes_of f earlier)) f.numbers (item_fields row)
applies f earlier row LengthRange = is_item f row && some_at is_no_length f.numbers (item_fields row)
applies f earlier row LineCount = is_item f row && nat_le (announced_items f earlier) (items_of f earlier)
applies f earlier row TooLarge = has_kind f row && some_at (λ range. is_over range.most) f.counts (count_fields f row)
applies f earlier row Read = false
applies f earlier row OutOfMemory = false
applies f earlier row GroupSize = false
applies f earlier row OpenGroup = false

-- by their numbers, the lowest first
abbrev pub line_codes : List Code
line_codes = BadLine ∷ NoProblemLine ∷ SecondProblemLine ∷ WrongKind ∷ NumberRange ∷ NodeRange ∷ LengthRange ∷ LineCount ∷ TooLarge ∷ []

-- the lowest code that applies
unfoldable pub code_of : Format → List Row → Row → Option Code
code_of f earlier row = find (applies f earlier row) line_codes

abbrev pub fault_at : ℕ → Code → Fault
fault_at line code = record { line = line; code = code }

abbrev pub or_else : {X : Type 0} → Option X → Option X → Option X
or_else None other = other
or_else (Some x) other = Some x

-- The first fault of a text, by what judges a line after the earlier ones: of any kind of text.
abbrev pub Judge : Type 0
Judge = List Row → Row → Option Code

-- the first line that is faulty after the earlier ones, with its lowest code
abbrev pub first_fault : Judge → List Row → List Row → Option Fault
first_fault judge earlier [] = None
first_fault judge earlier (row ∷ more) = or_else (option_map (fault_at (length earlier + 1)) (judge earlier row)) (first_fault judge (earlier ++ row ∷ []) more)

-- the fault of a text: of its first faulty line, or else of its end, which names the last line
abbrev pub fault_of : Judge → (List Row → Option Code) → List Row → Option Fault
fault_of judge end rows = or_else (first_fault judge [] rows) (option_map (fault_at (length rows)) (end rows))

-- what the end of a text is refused for
abbrev pub end_code : Format → List Row → Option Code
end_code f rows = if is_none (problem_of rows) then Some NoProblemLine else (if nat_lt (items_of f rows) (announced_items f rows) then Some LineCount else None)
