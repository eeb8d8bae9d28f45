-- Bits as flags of numbers, in pages of 32,768: that of u stands in page u / 32768, of which words may lack at the end, whose flags are down.
use Rattle.std.specs.Prelude.{ℕ, ◌/◌, ◌%◌, ◌==◌, Bool, List, [], slice_index_or}
use Rattle.std.specs.Int.{bit_at}

-- whether the flag of u is up
abbrev pub flag_at : List (List ℕ) → ℕ → Bool
flag_at pages u = bit_at (slice_index_or (slice_index_or pages (u / 32768) []) (u % 32768 / 64) 0) (u % 64) == 1
