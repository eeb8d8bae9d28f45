-- The disks that wrap another one: which of their calls are made.
use Rattle.std.specs.Prelude.{◌≡◌, ◌≢◌, ℕ, zero, suc, ◌-◌, Bool, false, if◌then◌else◌, Option, None, Some, IsSome}
use Rattle.disk.specs.Calls.{DiskCall, is_write_or_sync}
use Rattle.disk.specs.declared.fuse.FuseDisk.{FuseDisk}
use Rattle.disk.specs.declared.fail_once.FailOnce.{FailOnce}

abbrev pub fuse_inner : {D : Type 0} → FuseDisk D → D
fuse_inner disk = disk.inner

-- how many writes and syncs the fuse still passes; none of it where the fuse has blown
abbrev pub passes_of : {D : Type 0} → FuseDisk D → Option ℕ
passes_of disk = disk.passes

-- how many calls it refused, beside the failures of the disk inside
abbrev pub fuse_failures : {D : Type 0} → FuseDisk D → ℕ
fuse_failures disk = disk.failures

-- a fuse after one write or sync more: the one that finds nothing left blows it
abbrev pub burnt : Option ℕ → Option ℕ
burnt None = None
burnt (Some zero) = None
burnt (Some (suc k)) = Some k

abbrev pub burnt_by : DiskCall → Option ℕ → Option ℕ
burnt_by call passes = if is_write_or_sync call then burnt passes else passes

-- A call of a FuseDisk. It is made where it leaves the fuse whole; else it fails, and the disk inside is as it was.
pub record FuseTakes {D : Type 0} (takes : D → DiskCall → Bool → D → Type 0) (old : FuseDisk D) (call : DiskCall) (ok : Bool) (new : FuseDisk D) : Type 0 where
  pub burns : new.passes ≡ burnt_by call old.passes
  pub blown : new.passes ≡ None → (ok ≡ false) × (new.inner ≡ old.inner)
  pub passed : IsSome new.passes → takes old.inner call ok new.inner × (new.failures ≡ old.failures)

abbrev pub fail_once_inner : {D : Type 0} → FailOnce D → D
fail_once_inner disk = disk.inner

-- which call from now fails, the next one counted as 1; 0 where none does any more
abbrev pub fails_in : {D : Type 0} → FailOnce D → ℕ
fails_in disk = disk.fails_in

-- how many calls it refused, beside the failures of the disk inside
abbrev pub fail_once_failures : {D : Type 0} → FailOnce D → ℕ
fail_once_failures disk = disk.failures

-- A call of a FailOnce. It is made unless it is the one that fails, which leaves the disk inside as it was.
pub record FailOnceTakes {D : Type 0} (takes : D → DiskCall → Bool → D → Type 0) (old : FailOnce D) (call : DiskCall) (ok : Bool) (new : FailOnce D) : Type 0 where
  pub counts : new.fails_in ≡ old.fails_in - 1
  pub failed : old.fails_in ≡ 1 → (ok ≡ false) × (new.inner ≡ old.inner)
  pub passed : old.fails_in ≢ 1 → takes old.inner call ok new.inner × (new.failures ≡ old.failures)
