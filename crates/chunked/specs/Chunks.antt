-- Lists in chunks of one size.
use Rattle.std.specs.Prelude.{ℕ, ◌+◌, ◌*◌, ◌/◌, List, length, take, drop}

-- how many items a chunk has
abbrev pub chunk_size : ℕ
chunk_size = 1024

-- the items of the k-th chunk, counted from 0: the last one may have fewer, and there is none after it
abbrev pub chunk_of : {X : Type 0} → List X → ℕ → List X
chunk_of xs k = take chunk_size (drop (k * chunk_size) xs)

-- how many chunks the items take
abbrev pub chunk_count : {X : Type 0} → List X → ℕ
chunk_count xs = (length xs + 1023) / chunk_size
