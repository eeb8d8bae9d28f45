-- What is known of the numbers behind `table` before the line ends.
use Rattle.std.specs.Prelude.{◌≡◌, ℕ, ◌+◌, ◌-◌, ◌^◌, min, Bool, false, true, ◌&&◌, ◌||◌, ◌<◌, ◌≤◌, ◌==◌, nat_lt, List, ◌++◌, length, take, drop, map, slice_index_or, Some, is_none}
use Rattle.std.specs.List.{list_any}
use Rattle.dimacs.specs.declared.fault.Code.TheVariants.{BadLine}
use Rattle.dimacs.specs.Commands.{is_refused}
use Rattle.dimacs.specs.Content.{size_at}
use Rattle.dimacs.specs.Faults.{Row, size_of, some_numeral}
use Rattle.dimacs.specs.Numerals.{numeral}
use Rattle.session_lines.specs.declared.tables.Listing.{Listing}
use Rattle.session_lines.specs.declared.tables.Listing.TheVariants.{Numbers, Faulty, Unkept}
use Rattle.session_lines.specs.declared.asked_tables.Table.{Table}
use Rattle.session_lines.specs.Tables.{is_table_size, numbers_of_table, table_code}

-- a size as the program keeps it
abbrev pub listed_size : List ℕ → ℕ
listed_size field = min (size_of field) (2 ^ 64 - 1)

-- each field is a numeral, of which the size is kept, and whether one of them is refused
pub record AreListed (row : Row) (sizes : List ℕ) (refused : Bool) : Type 0 where
  pub numerals : list_any (λ field. is_none (numeral field)) row ≡ false
  pub sizes_are : sizes ≡ map listed_size row
  pub refused_is : refused ≡ some_numeral is_refused row

-- how many numbers a table has whose first ones are these
abbrev pub numbers_by : List ℕ → ℕ
numbers_by sizes = 2 + slice_index_or sizes 0 0 + slice_index_or sizes 1 0

abbrev pub is_sized : List ℕ → Bool
is_sized sizes = is_table_size (slice_index_or sizes 0 0) (slice_index_or sizes 1 0)

-- one number more may follow these
abbrev pub has_room : List ℕ → Bool
has_room sizes = nat_lt (length sizes) 2 || (is_sized sizes && nat_lt (length sizes) (numbers_by sizes))

-- these are all numbers of a table
abbrev pub is_whole : List ℕ → Bool
is_whole sizes = is_sized sizes && (length sizes == numbers_by sizes)

-- These are numerals; and where more than the two counts stand there they count a table, and no more stand there than it has.
pub record AreInOrder (row : Row) : Type 0 where
  pub numerals : list_any (λ field. is_none (numeral field)) row ≡ false
  pub counted : 2 < length row → (is_table_size (size_at row 0) (size_at row 1) ≡ true) × (length row ≤ numbers_of_table row)

-- Some first ones of these, one or more, are in order.
pub record BeginInOrder (row : Row) : Type 0 where
  pub front : Row
  pub rest : Row
  pub row_is : row ≡ front ++ rest
  pub some : 0 < length front
  pub in_order : AreInOrder front

-- the numbers are these; or the line has a fault, whatever follows; or no memory was given for a number, up to which they are in order
abbrev pub IsListing : Row → Listing → Type 0
IsListing row (Numbers sizes refused) = AreListed row sizes.items refused
IsListing row Faulty = (more : Row) → table_code (row ++ more) ≡ Some BadLine
IsListing row Unkept = BeginInOrder row

-- the sources and the targets of a table that was read
abbrev pub sources_of : Table → List ℕ
sources_of table = take table.sources (drop 2 table.numbers.items)

abbrev pub targets_of : Table → List ℕ
targets_of table = drop table.sources (drop 2 table.numbers.items)
