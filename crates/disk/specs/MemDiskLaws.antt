-- What holds of each call of a disk in memory.
use Rattle.std.proofs.Common.{◌≡◌, ◌⊎◌, inl, inr, ⊎_elim, ℕ, zero, suc, List, length, Bool, true, false, Option, None, Some, refl, sym, ◌∙◌, arith}
use Rattle.disk.specs.Calls.{DiskCall, Len, Read, Write, Sync}
use Rattle.disk.specs.Record.{before_writes, is_written, unsynced}
use Rattle.disk.specs.Stop.{nearer_by, synced_by, AreSame, HasRangeToo, IsUnsyncedBy}
use Rattle.disk.specs.MemDisk.{bytes_of, synced_of, is_unsynced_in, armed_of, IsSame, MemWrites, MemTakes}
use Rattle.disk.specs.declared.mem_disk.MemDisk.{MemDisk}

pub mem_comes_nearer : (old : MemDisk) (call : DiskCall) (ok : Bool) (new : MemDisk) → MemTakes old call ok new → armed_of new ≡ nearer_by call (armed_of old)
mem_comes_nearer old Len ok new takes = takes.armed
mem_comes_nearer old (Read at count) ok new takes = takes.armed
mem_comes_nearer old (Write at bytes) ok new takes = takes.armed
mem_comes_nearer old Sync ok new takes = takes.armed

pub mem_cut_fails : (old : MemDisk) (call : DiskCall) (ok : Bool) (new : MemDisk) → MemTakes old call ok new → armed_of new ≡ Some 0 → ok ≡ false
mem_cut_fails old Len ok new takes came = takes.late (sym takes.armed ∙ came)
mem_cut_fails old (Read at count) ok new takes came = takes.late (sym takes.armed ∙ came)
mem_cut_fails old (Write at bytes) ok new takes came = takes.cut came
mem_cut_fails old Sync ok new takes came = takes.cut came

came_or_not : (armed : Option ℕ) → (armed ≡ Some 0) ⊎ (armed ≡ Some 0 → ⊥)
came_or_not None = inr (λ came. cc)
came_or_not (Some zero) = inl refl
came_or_not (Some (suc k)) = inr (λ came. let same : suc k ≡ 0 = cc in absurd (omega arith))

same_synced : (old new : MemDisk) → IsSame old new → synced_of new ≡ synced_of old
same_synced old new same = λ i. before_writes (unsynced (same.record_is i)) (same.content i)

write_keeps_synced : (at : ℕ) (bytes : List ℕ) (old : MemDisk) (ok : Bool) (new : MemDisk) → MemWrites at bytes old ok new → synced_of new ≡ synced_of old
write_keeps_synced at bytes old ok new writes = ⊎_elim
    (λ came. same_synced old new (writes.late came))
    (λ not_yet. ⊎_elim (λ made. made.synced) (λ refused. same_synced old new refused.same) (writes.made not_yet))
    (came_or_not (armed_of old))

pub mem_only_sync_syncs : (old : MemDisk) (call : DiskCall) (ok : Bool) (new : MemDisk) → MemTakes old call ok new → synced_of new ≡ synced_by call ok (bytes_of old) (synced_of old)
mem_only_sync_syncs old Len ok new takes = same_synced old new takes.same
mem_only_sync_syncs old (Read at count) ok new takes = same_synced old new takes.same
mem_only_sync_syncs old (Write at bytes) ok new takes = write_keeps_synced at bytes old ok new takes
mem_only_sync_syncs old Sync true new takes = (takes.told refl).synced
mem_only_sync_syncs old Sync false new takes = same_synced old new (takes.failed refl)

same_unsynced : (old new : MemDisk) → IsSame old new → AreSame (is_unsynced_in old) (is_unsynced_in new)
same_unsynced old new same = λ i j. is_written (unsynced (same.record_is j)) i

failed_write : (at : ℕ) (bytes : List ℕ) (old new : MemDisk) → MemWrites at bytes old false new
    → HasRangeToo at (length bytes) (is_unsynced_in old) (is_unsynced_in new) ⊎ AreSame (is_unsynced_in old) (is_unsynced_in new)
failed_write at bytes old new writes = ⊎_elim
    (λ came. inr (same_unsynced old new (writes.late came)))
    (λ not_yet. ⊎_elim (λ made. inl made.unsynced) (λ refused. inr (same_unsynced old new refused.same)) (writes.made not_yet))
    (came_or_not (armed_of old))

pub mem_writes_unsync : (old : MemDisk) (call : DiskCall) (ok : Bool) (new : MemDisk) → MemTakes old call ok new → IsUnsyncedBy call ok (is_unsynced_in old) (is_unsynced_in new)
mem_writes_unsync old Len ok new takes = same_unsynced old new takes.same
mem_writes_unsync old (Read at count) ok new takes = same_unsynced old new takes.same
mem_writes_unsync old (Write at bytes) true new takes = (takes.told refl).unsynced
mem_writes_unsync old (Write at bytes) false new takes = failed_write at bytes old new takes
mem_writes_unsync old Sync true new takes = (takes.told refl).unsynced
mem_writes_unsync old Sync false new takes = same_unsynced old new (takes.failed refl)
