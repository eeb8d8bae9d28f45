-- What a call of a disk in memory does that is not cut.
use Rattle.std.proofs.Common.{◌≡◌, inl, ⊎_elim, ℕ, ◌+◌, ◌≤◌, List, length, get_or, take, Bool, false, ◌&&◌, Option, None, Some, Result, Ok, Err, OnOk, OnErr, refl, sym, ◌∙◌, ap, subst, arith, length-take, leb, ltb}
use Rattle.std.proofs.lemmas.Bool.{or_parts}
use Rattle.disk.specs.Contents.{overwritten, Torn, PartlyWritten, AreAmong, Follows}
use Rattle.disk.specs.Moments.{Elapses}
use Rattle.disk.specs.Record.{unsynced, MayLeave, MightHaveLeft}
use Rattle.disk.specs.Stop.{nearer}
use Rattle.disk.specs.MemDisk.{bytes_of, record_of, synced_of, is_unsynced_in, armed_of, IsWritten, IsSame, MemWrites}
use Rattle.disk.specs.declared.disk.DiskError.{DiskError}
use Rattle.disk.specs.declared.mem_disk.MemDisk.{MemDisk}
use Rattle.disk.specs.declared.mem_disk.Recorded.{Recorded}
use Rattle.disk.proofs.Overwritten.{overwritten_torn}
use Rattle.filedisk.specs.Files.{Unchanged, Tears}
use Rattle.filedisk.specs.MemFiles.{left_of, moment_of, left_since_of}
use Rattle.filedisk.proofs.Tearing.{unchanged_tears, tears_within, tears_twice}

-- ---- nothing is written and nothing synced
same_back : (old new : MemDisk) → IsSame old new → IsSame new old
same_back old new same = record { content = sym same.content; record_is = sym same.record_is }

pub same_keeps : (old new : MemDisk) → IsSame old new → AreAmong (left_of old) (left_of new)
same_keeps old new same c left =
    subst (λ (l : List ℕ). MayLeave (unsynced (record_of new)) l c) (sym same.content)
    (subst (λ (calls : List Recorded). MayLeave (unsynced calls) (bytes_of old) c) (sym same.record_is) left)

since_back : (old new : MemDisk) → IsSame old new → (t : ℕ) (c : List ℕ) → left_since_of old t c → left_since_of new t c
since_back old new same t c since =
    subst (λ (l : List ℕ). MightHaveLeft (record_of new) l t c) (sym same.content)
    (subst (λ (calls : List Recorded). MightHaveLeft calls (bytes_of old) t c) (sym same.record_is) since)

pub same_unchanged : (old new : MemDisk) → IsSame old new → Unchanged bytes_of left_of moment_of left_since_of old new
same_unchanged old new same = record {
  same = same.content;
  among = same_keeps new old (same_back old new same);
  time = record {
    later = let long : length (record_of new) ≡ length (record_of old) = ap length same.record_is in omega (arith, long);
    adds = λ t c le since. inl (since_back new old (same_back old new same) t c since);
    keeps = λ t c le past. since_back old new same t c past;
  };
}

-- ---- a write that is not the armed one
none_came : (armed : Option ℕ) → armed ≡ None → armed ≡ Some 0 → ⊥
none_came None none came = cc
none_came (Some k) none came = cc

not_armed : (disk : MemDisk) → armed_of disk ≡ None → armed_of disk ≡ Some 0 → ⊥
not_armed disk none came = none_came (armed_of disk) none came

written_keeps : (at : ℕ) (bytes : List ℕ) (old new : MemDisk) → length (bytes_of old) ≤ length (bytes_of new) → IsWritten at bytes old new → AreAmong (left_of old) (left_of new)
written_keeps at bytes old new longer written c left =
    let synced : length (synced_of new) ≡ length (synced_of old) = ap length written.synced in
    record {
      no_shorter = omega (arith, left.no_shorter, synced);
      no_longer = omega (arith, left.no_longer, longer);
      outside = λ i lt out.
          let before = or_parts (is_unsynced_in old i) (leb at i && ltb i (at + length bytes)) (sym (written.unsynced i) ∙ out) in
          left.outside i (omega (arith, lt, synced)) before.0 ∙ sym (ap (λ (l : List ℕ). get_or l i 0) written.synced);
    }

-- what a stop may leave before it, a stop may leave after it
pub write_keeps : (at : ℕ) (bytes : List ℕ) (old new : MemDisk) (ok : Bool) → armed_of old ≡ None → length (bytes_of old) ≤ length (bytes_of new) → MemWrites at bytes old ok new
    → AreAmong (left_of old) (left_of new)
write_keeps at bytes old new ok none longer writes = ⊎_elim (λ made. written_keeps at bytes old new longer made) (λ refused. same_keeps old new refused.same) (writes.made (not_armed old none))

pub write_unarmed : (at : ℕ) (bytes : List ℕ) (old new : MemDisk) (ok : Bool) → armed_of old ≡ None → MemWrites at bytes old ok new → armed_of new ≡ None
write_unarmed at bytes old new ok none writes = writes.armed ∙ ap nearer none

-- one that fails was not made
pub write_failed : (at : ℕ) (bytes : List ℕ) (old new : MemDisk) → armed_of old ≡ None → MemWrites at bytes old false new → bytes_of new ≡ bytes_of old
write_failed at bytes old new none writes =
    ⊎_elim (λ came. absurd (not_armed new (write_unarmed at bytes old new false none writes) came)) (λ refused. refused.same.content) (writes.cause refl)

torn_either : {T : Type 0} (at : ℕ) (bytes old new : List ℕ) (result : Result T DiskError) → at ≤ length old → OnOk result (new ≡ overwritten old at bytes)
    → OnErr result (PartlyWritten at (length bytes) old new) → Torn at (length bytes) old new
torn_either at bytes old new (Ok done) within written failed = subst (λ (l : List ℕ). Torn at (length bytes) old l) (sym written) (overwritten_torn old bytes at within)
torn_either at bytes old new (Err error) within written failed = failed.torn

pub write_tears : {T : Type 0} (at : ℕ) (bytes : List ℕ) (old new : MemDisk) (result : Result T DiskError) → at ≤ length (bytes_of old)
    → OnOk result (bytes_of new ≡ overwritten (bytes_of old) at bytes) → OnErr result (PartlyWritten at (length bytes) (bytes_of old) (bytes_of new))
    → Follows (Torn at (length bytes)) (left_of old) (left_of new) → Elapses (moment_of old) (moment_of new) (left_since_of old) (left_since_of new) (left_of new)
    → Tears at (length bytes) bytes_of left_of moment_of left_since_of old new
write_tears at bytes old new result within written failed stop time = record { torn = torn_either at bytes (bytes_of old) (bytes_of new) result within written failed; stop = stop; time = time }

-- a write of the first of these bytes
pub front_tears : (at count : ℕ) (bytes : List ℕ) (old new : MemDisk) → Tears at (length (take count bytes)) bytes_of left_of moment_of left_since_of old new
    → Tears at (length bytes) bytes_of left_of moment_of left_since_of old new
front_tears at count bytes old new tears =
    tears_within bytes_of left_of moment_of left_since_of at (length bytes) at (length (take count bytes)) old new (omega arith) (omega (arith, length-take count bytes)) tears

-- a write behind a call that changed nothing
pub tears_after_same : (at n at' n' : ℕ) (old mid new : MemDisk) → IsSame old mid → at' ≡ at → n' ≡ n → Tears at' n' bytes_of left_of moment_of left_since_of mid new → AreAmong (left_of mid) (left_of new)
    → Tears at n bytes_of left_of moment_of left_since_of old new
tears_after_same at n at' n' old mid new same begins long tears keeps =
    tears_twice bytes_of left_of moment_of left_since_of at n old mid new
    (unchanged_tears bytes_of left_of moment_of left_since_of at n old mid (same_unchanged old mid same))
    (tears_within bytes_of left_of moment_of left_since_of at n at' n' mid new (omega (arith, begins)) (omega (arith, begins, long)) tears) keeps
