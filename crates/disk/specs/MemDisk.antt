-- What a disk in memory says of its own calls.
use Rattle.std.specs.Prelude.{◌≡◌, ◌≢◌, ◌⊎◌, ◌+◌, ℕ, List, length, Bool, true, false, ◌||◌, ◌&&◌, nat_le, nat_lt, Option, Some}
use Rattle.disk.specs.Calls.{DiskCall, Len, Read, Write, Sync}
use Rattle.disk.specs.Contents.{overwritten, Rose}
use Rattle.disk.specs.Record.{before_writes, is_written, unsynced}
use Rattle.disk.specs.Stop.{nearer}
use Rattle.disk.specs.declared.mem_disk.Recorded.{Recorded}
use Rattle.disk.specs.declared.mem_disk.MemDisk.{MemDisk}

abbrev pub bytes_of : MemDisk → List ℕ
bytes_of disk = disk.content.items

-- its writes and syncs, the earliest first
abbrev pub record_of : MemDisk → List Recorded
record_of disk = disk.calls.items

-- the content at the last sync
abbrev pub synced_of : MemDisk → List ℕ
synced_of disk = before_writes (unsynced disk.calls.items) disk.content.items

-- whether this place was written since then
abbrev pub is_unsynced_in : MemDisk → ℕ → Bool
is_unsynced_in disk = is_written (unsynced disk.calls.items)

-- which write or sync from now on is cut, the next one counted as 1; 0 where it came
abbrev pub armed_of : MemDisk → Option ℕ
armed_of disk = disk.armed

-- how often a growth was refused
abbrev pub refusals_of : MemDisk → ℕ
refusals_of disk = disk.refusals

-- nothing is written and nothing synced
pub record IsSame (old new : MemDisk) : Type 0 where
  pub content : bytes_of new ≡ bytes_of old
  pub record_is : record_of new ≡ record_of old

-- these bytes are written, and nothing is synced
pub record IsWritten (at : ℕ) (bytes : List ℕ) (old new : MemDisk) : Type 0 where
  pub content : bytes_of new ≡ overwritten (bytes_of old) at bytes
  pub synced : synced_of new ≡ synced_of old
  pub unsynced : (i : ℕ) → is_unsynced_in new i ≡ (is_unsynced_in old i || (nat_le at i && nat_lt i (at + length bytes)))

-- all that was written is synced
pub record IsSynced (old new : MemDisk) : Type 0 where
  pub content : bytes_of new ≡ bytes_of old
  pub synced : synced_of new ≡ bytes_of old
  pub unsynced : (i : ℕ) → is_unsynced_in new i ≡ false

-- a growth was refused, and nothing changed but the count of such refusals
pub record IsGrowthRefused (old new : MemDisk) : Type 0 where
  pub same : IsSame old new
  pub refused : Rose (refusals_of old) (refusals_of new)

-- a length asked for or a read: it changes nothing, and fails only after the armed call
pub record MemReads (old : MemDisk) (ok : Bool) (new : MemDisk) : Type 0 where
  pub armed : armed_of new ≡ armed_of old
  pub same : IsSame old new
  pub late : armed_of old ≡ Some 0 → ok ≡ false
  pub cause : ok ≡ false → armed_of old ≡ Some 0

-- A write. The armed one is made and fails. After it none is made. It fails by itself only for want of memory.
pub record MemWrites (at : ℕ) (bytes : List ℕ) (old : MemDisk) (ok : Bool) (new : MemDisk) : Type 0 where
  pub armed : armed_of new ≡ nearer (armed_of old)
  pub told : ok ≡ true → IsWritten at bytes old new
  pub made : armed_of old ≢ Some 0 → IsWritten at bytes old new ⊎ IsGrowthRefused old new
  pub late : armed_of old ≡ Some 0 → IsSame old new
  pub cut : armed_of new ≡ Some 0 → ok ≡ false
  pub cause : ok ≡ false → (armed_of new ≡ Some 0) ⊎ IsGrowthRefused old new

-- A sync. It fails for want of memory, and from the armed call on. One that fails isn't made.
pub record MemSyncs (old : MemDisk) (ok : Bool) (new : MemDisk) : Type 0 where
  pub armed : armed_of new ≡ nearer (armed_of old)
  pub told : ok ≡ true → IsSynced old new
  pub failed : ok ≡ false → IsSame old new
  pub cut : armed_of new ≡ Some 0 → ok ≡ false
  pub cause : ok ≡ false → (armed_of new ≡ Some 0) ⊎ IsGrowthRefused old new

abbrev pub MemTakes : MemDisk → DiskCall → Bool → MemDisk → Type 0
MemTakes old Len ok new = MemReads old ok new
MemTakes old (Read _ _) ok new = MemReads old ok new
MemTakes old (Write at bytes) ok new = MemWrites at bytes old ok new
MemTakes old Sync ok new = MemSyncs old ok new
