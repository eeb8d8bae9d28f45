-- Lines `table A B`, behind which A sources and B targets stand.
use Rattle.std.specs.Prelude.{ℕ, ◌+◌, ◌*◌, Bool, not, ◌&&◌, ◌||◌, nat_le, List, take, drop, map, Option, None, Some, if◌then◌else◌}
use Rattle.std.specs.List.{flat_map}
use Rattle.std.specs.Str.{bytes_eq}
use lib.Chars.{codes}
use Rattle.dimacs.specs.declared.fault.Code.{Code}
use Rattle.dimacs.specs.declared.fault.Code.TheVariants.{BadLine, NumberRange}
use Rattle.dimacs.specs.Commands.{is_refused}
use Rattle.dimacs.specs.Content.{size_at}
use Rattle.dimacs.specs.Faults.{Row, has_first, is_malformed, size_of, some_numeral}

-- the line begins with `table`
abbrev pub is_table : Row → Bool
is_table row = has_first (λ word. bytes_eq word (codes "table")) row

-- as many pairs as a text of pairs may list
abbrev pub most_pairs : ℕ
most_pairs = 16777216

-- a source and a target at least, and no more pairs than that
abbrev pub is_table_size : ℕ → ℕ → Bool
is_table_size sources targets = nat_le 1 sources && (nat_le 1 targets && nat_le (sources * targets) most_pairs)

-- A and B, and behind them so many nodes
abbrev pub numbers_of_table : Row → ℕ
numbers_of_table numbers = 2 + size_at numbers 0 + size_at numbers 1

-- what stands behind `table` is not that
abbrev pub is_no_table : Row → Bool
is_no_table numbers = not (is_table_size (size_at numbers 0) (size_at numbers 1)) || is_malformed (numbers_of_table numbers) numbers

-- the code of such a line, by what stands behind `table`
abbrev pub table_code : Row → Option Code
table_code numbers = if is_no_table numbers then Some BadLine else (if some_numeral is_refused numbers then Some NumberRange else None)

-- the sources, and the targets behind them
abbrev pub sources_in : Row → List ℕ
sources_in numbers = take (size_at numbers 0) (map size_of (drop 2 numbers))

abbrev pub targets_in : Row → List ℕ
targets_in numbers = drop (size_at numbers 0) (map size_of (drop 2 numbers))

-- each source with each target, source by source
abbrev pub pairs_of : List ℕ → List ℕ → List (ℕ × ℕ)
pairs_of sources targets = flat_map (λ source. map (λ target. (source, target)) targets) sources
