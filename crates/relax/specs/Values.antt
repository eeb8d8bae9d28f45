-- Tentative values: for each node the least length of a walk that a search has found so far, or nothing.
use Rattle.std.specs.Prelude.{ℕ, List, Option, None, Some, ◌==◌, if◌then◌else◌, slice_index_or, unwrap_or}

-- The list has an entry for each node at the place of its number; the first entry, that of number 0, is nothing.
abbrev pub value_at : List (Option ℕ) → ℕ → Option ℕ
value_at tentative node = slice_index_or tentative node None

-- the value of a node, or `none` where it has none
abbrev pub value_or : ℕ → List (Option ℕ) → ℕ → ℕ
value_or none tentative node = unwrap_or (value_at tentative node) none

-- the word that stands for "no value"
abbrev pub no_value : ℕ
no_value = 18446744073709551615

-- a value or nothing, as one word
abbrev pub value_of_word : ℕ → Option ℕ
value_of_word word = if word == no_value then None else Some word

-- the word of 4 bytes that stands for "no value"
abbrev pub no_short_value : ℕ
no_short_value = 4294967295

-- a value or nothing, as one word of 4 bytes
abbrev pub value_of_short : ℕ → Option ℕ
value_of_short word = if word == no_short_value then None else Some word
