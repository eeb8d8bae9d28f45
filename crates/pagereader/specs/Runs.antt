-- Pages of a file, one after the other.
use Rattle.std.specs.Prelude.{◌≡◌, ℕ, ◌+◌, ◌-◌, ◌*◌, ◌≤◌, List, length, take, drop}
use Rattle.pages.specs.Limits.{page_size}

-- the pages from this number on, one behind the other
pub record PageRun : Type 0 where
  pub first : ℕ
  pub bytes : List ℕ

-- the run is one of the file
abbrev pub IsRunOf : List ℕ → PageRun → Type 0
IsRunOf file run = run.bytes ≡ take (length run.bytes) (drop (page_size * run.first) file)

-- this page is one of the run's
abbrev pub HoldsPage : PageRun → ℕ → Type 0
HoldsPage run k = (run.first ≤ k) × (page_size * (k - run.first + 1) ≤ length run.bytes)
