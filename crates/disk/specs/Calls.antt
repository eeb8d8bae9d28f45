-- The calls of a disk, as its members speak of them.
use Rattle.std.specs.Prelude.{ℕ, List, Bool, true, false}

-- a call with its arguments; of a read, how many bytes are asked for
pub data DiskCall : Type 0 where
  Len : DiskCall
  Read : (at count : ℕ) → DiskCall
  Write : (at : ℕ) (bytes : List ℕ) → DiskCall
  Sync : DiskCall

-- whether the call writes or syncs: such calls alone are counted where a disk is stopped at one of them
abbrev pub is_write_or_sync : DiskCall → Bool
is_write_or_sync Len = false
is_write_or_sync (Read _ _) = false
is_write_or_sync (Write _ _) = true
is_write_or_sync Sync = true
