-- What the calls of a file do to its content, and what a stop may leave of it.
use Rattle.std.specs.Prelude.{◌≡◌, ◌-◌, ℕ, List, ◌++◌, length, replicate}
use Rattle.disk.specs.Contents.{Torn, AreAmong, Follows}
use Rattle.disk.specs.Moments.{Elapses}
use Rattle.filedisk.specs.declared.file_disk.FileDisk.{FileDisk}

-- old with zeros behind it, up to this length
abbrev pub lengthened : List ℕ → ℕ → List ℕ
lengthened old size = old ++ replicate (size - length old) 0

-- From old to new the content stays, and a stop may leave no more than before.
pub record Unchanged {F : Type 0} (content : F → List ℕ) (left : F → List ℕ → Type 0) (moment : F → ℕ) (left_since : F → ℕ → List ℕ → Type 0) (old new : F) : Type 0 where
  pub same : content new ≡ content old
  pub among : AreAmong (left new) (left old)
  pub time : Elapses (moment old) (moment new) (left_since old) (left_since new) (left new)

-- From old to new the content changes in n bytes at this offset alone, and so does each content that a stop may leave.
pub record Tears {F : Type 0} (at n : ℕ) (content : F → List ℕ) (left : F → List ℕ → Type 0) (moment : F → ℕ) (left_since : F → ℕ → List ℕ → Type 0) (old new : F) : Type 0 where
  pub torn : Torn at n (content old) (content new)
  pub stop : Follows (Torn at n) (left old) (left new)
  pub time : Elapses (moment old) (moment new) (left_since old) (left_since new) (left new)

abbrev pub file_of : {F : Type 0} → FileDisk F → F
file_of disk = disk.file

-- how many calls have failed
abbrev pub failures_of : {F : Type 0} → FileDisk F → ℕ
failures_of disk = disk.failures
