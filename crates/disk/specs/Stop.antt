-- The armed call of a test disk, and what a stop of it leaves.
use Rattle.std.specs.Prelude.{◌≡◌, ◌⊎◌, ◌<◌, ◌||◌, ◌&&◌, nat_le, nat_lt, ◌+◌, ◌-◌, ◌%◌, ℕ, zero, suc, Bool, true, false, if◌then◌else◌, Option, None, Some, List, length, slice_index, slice_get, IfSome}
use Rattle.disk.specs.Calls.{DiskCall, Write, Sync, is_write_or_sync}
use Rattle.disk.specs.declared.stoppable.Pick.{Pick}
use Rattle.disk.specs.declared.stoppable.Pick.TheVariants.{Old, New, Byte}

-- The armed call is told as a number of writes and syncs from now, the next one counted as 1. It is 0 once it came.

-- after one write or sync more
abbrev pub nearer : Option ℕ → Option ℕ
nearer None = None
nearer (Some k) = Some (k - 1)

abbrev pub nearer_by : DiskCall → Option ℕ → Option ℕ
nearer_by call armed = if is_write_or_sync call then nearer armed else armed

-- after the k-th is armed: one that came stays so until the stop
abbrev pub armed_at : ℕ → Option ℕ → Option ℕ
armed_at k None = Some k
armed_at k (Some zero) = Some 0
armed_at k (Some (suc _)) = Some k

-- the synced content after a call: a sync that succeeds alone changes it
abbrev pub synced_by : DiskCall → Bool → List ℕ → List ℕ → List ℕ
synced_by Sync true content synced = content
synced_by _ _ content synced = synced

-- the same places are unsynced
abbrev pub AreSame : (ℕ → Bool) → (ℕ → Bool) → Type 0
AreSame old new = (i : ℕ) → new i ≡ old i

-- those of a range of so many bytes are unsynced too
abbrev pub HasRangeToo : ℕ → ℕ → (ℕ → Bool) → (ℕ → Bool) → Type 0
HasRangeToo at count old new = (i : ℕ) → new i ≡ (old i || (nat_le at i && nat_lt i (at + count)))

-- Which places are unsynced after a call: a write adds its range, and one that fails may add nothing; a sync that succeeds leaves none.
abbrev pub IsUnsyncedBy : DiskCall → Bool → (ℕ → Bool) → (ℕ → Bool) → Type 0
IsUnsyncedBy (Write at bytes) true old new = HasRangeToo at (length bytes) old new
IsUnsyncedBy (Write at bytes) false old new = HasRangeToo at (length bytes) old new ⊎ AreSame old new
IsUnsyncedBy Sync true old new = (i : ℕ) → new i ≡ false
IsUnsyncedBy _ _ old new = AreSame old new

-- the byte that a pick gives, of the synced one and the one that was written
abbrev pub picked : Pick → ℕ → ℕ → ℕ
picked Old old new = old
picked New old new = new
picked (Byte b) old new = b

-- how many places below this one were written
abbrev pub written_below : (ℕ → Bool) → ℕ → ℕ
written_below is_written zero = 0
written_below is_written (suc i) = if is_written i then written_below is_written i + 1 else written_below is_written i

-- Each place that was written, ascending, takes its pick, and the picks go round. The synced byte past the synced
-- length is 0.
pub record TakesPicks (picks : List Pick) (synced : List ℕ) (is_written : ℕ → Bool) (old new : List ℕ) : Type 0 where
  pub same_length : length new ≡ length old
  pub others : (i : ℕ) → is_written i ≡ false → slice_index new i ≡ slice_index old i
  pub written : (i : ℕ) → i < length old → is_written i ≡ true →
      IfSome (slice_get picks (written_below is_written i % length picks)) (λ pick. slice_index new i ≡ picked pick (slice_index synced i) (slice_index old i))
