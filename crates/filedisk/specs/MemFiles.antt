-- What a stop may leave of a file in memory, as of the disk in memory in which it lies.
use Rattle.std.specs.Prelude.{ℕ, List, length}
use Rattle.disk.specs.Record.{unsynced, MayLeave, MightHaveLeft}
use Rattle.disk.specs.MemDisk.{bytes_of, record_of}
use Rattle.disk.specs.declared.mem_disk.MemDisk.{MemDisk}

-- now
abbrev pub left_of : MemDisk → List ℕ → Type 0
left_of disk = MayLeave (unsynced (record_of disk)) (bytes_of disk)

-- how many writes and syncs it has noted
abbrev pub moment_of : MemDisk → ℕ
moment_of disk = length (record_of disk)

-- at some moment from this one on
abbrev pub left_since_of : MemDisk → ℕ → List ℕ → Type 0
left_since_of disk = MightHaveLeft (record_of disk) (bytes_of disk)
