use Rattle.std.proofs.Common.{◌≡◌, ◌||◌, ℕ, length}
use Rattle.disk.specs.Record.{unsynced, is_written, IsSyncedByte}
use Rattle.disk.proofs.mem_disk.synced_byte.Given as goal

-- the calls that are left give the rest of what is written, and the byte before them is that before all
abbrev pub invariant-loop-last : goal.invariant-loop-last
invariant-loop-last l = record {
  written : is_written (unsynced l.calls) l.place ≡ (l.is_written || is_written (unsynced l.left) l.place);
  byte : (s : ℕ) → IsSyncedByte l.left l.total_then l.place l.byte_then s → IsSyncedByte l.calls l.total l.place l.byte s;
}

abbrev pub decreases-loop-last : goal.decreases-loop-last
decreases-loop-last l = length l.left
