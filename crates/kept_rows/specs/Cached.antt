-- The rows that a cache keeps.
use Rattle.std.specs.Prelude.{◌≡◌, ◌≢◌, ◌⊎◌, ℕ, Bool, ◌&&◌, nat_eq, List, [], Option, None, Contains}
use Rattle.std.specs.Map.{lookup}
use Rattle.std.specs.Option.{option_map_or}
use Rattle.std.specs.NonZero.{non_zero_usize_get}
use Rattle.roadnet.specs.Net.{Net}
use Rattle.roadnet.specs.Walks.{RowOf}
use Rattle.lru.specs.LruCache.{lru_cache, promoted, put_entries}
use Rattle.kept_rows.specs.declared.caches.RowCache.{RowCache}

-- a version, a source and a row
abbrev pub KeptRow : Type 0
KeptRow = (ℕ × ℕ) × List (Option ℕ)

abbrev pub key : ℕ → ℕ → ℕ × ℕ
key version source = (version, source)

abbrev pub kept_row : ℕ → ℕ → List (Option ℕ) → KeptRow
kept_row version source row = (key version source, row)

abbrev pub capacity_of : RowCache → ℕ
capacity_of cache = non_zero_usize_get cache.capacity

-- the rows that it keeps, the most recently used first
abbrev pub rows_of : RowCache → List KeptRow
rows_of cache = option_map_or (λ rows. rows.entries) cache.rows []

-- What it keeps for this version are rows of this network.
abbrev pub HasRowsOf : ℕ → Net → RowCache → Type 0
HasRowsOf version net cache = (source : ℕ) (row : List (Option ℕ)) → Contains (rows_of cache) (kept_row version source row) → RowOf net source row

-- each row was there before
abbrev pub HasNoNewRow : RowCache → RowCache → Type 0
HasNoNewRow old new = (kept : KeptRow) → Contains (rows_of new) kept → Contains (rows_of old) kept

-- each was there before, or is this one
abbrev pub HasOneNewRow : RowCache → RowCache → ℕ → ℕ → List (Option ℕ) → Type 0
HasOneNewRow old new version source row = (kept : KeptRow) → Contains (rows_of new) kept → Contains (rows_of old) kept ⊎ (kept ≡ kept_row version source row)

-- each row of another version was there before
abbrev pub KeepsOthers : ℕ → RowCache → RowCache → Type 0
KeepsOthers version old new =
    (other source : ℕ) (row : List (Option ℕ)) → other ≢ version → Contains (rows_of new) (kept_row other source row)
    → Contains (rows_of old) (kept_row other source row)

-- two keys are the same
abbrev pub key_eq : ℕ × ℕ → ℕ × ℕ → Bool
key_eq a b = nat_eq a.0 b.0 && nat_eq a.1 b.1

-- the row of this version and source, if it is kept
abbrev pub row_kept : ℕ → ℕ → RowCache → Option (List (Option ℕ))
row_kept version source cache = lookup (key_eq (key version source)) (rows_of cache)

-- the rows that are kept, with that of this version and source first, if it is among them
abbrev pub rows_used : ℕ → ℕ → RowCache → List KeptRow
rows_used version source cache = promoted (key_eq (key version source)) (rows_of cache)

-- the rows that are kept with this one first; where the cache was full, the least recently used has given way
abbrev pub rows_put : ℕ → ℕ → List (Option ℕ) → RowCache → List KeptRow
rows_put version source row cache = put_entries key_eq (lru_cache (rows_of cache) (capacity_of cache)) (key version source) row

-- a row of this version and source is kept now where none was
abbrev pub HasPut : ℕ → ℕ → RowCache → RowCache → Type 0
HasPut version source old new = (row_kept version source old ≡ None) × ((row : List (Option ℕ)) × (rows_of new ≡ rows_put version source row old))

-- The row of this version and source was used: it was kept, and then it is first; or it was not, and then it may have been put.
abbrev pub HasUsed : ℕ → ℕ → RowCache → RowCache → Type 0
HasUsed version source old new = (rows_of new ≡ rows_used version source old) ⊎ HasPut version source old new
