-- A disk's record of its writes and syncs: what its content was, and what a stop may leave.
use Rattle.std.specs.Prelude.{◌≡◌, ℕ, max, ◌≤◌, ◌+◌, ◌-◌, Bool, if◌then◌else◌, Option, None, slice_get, ◌&&◌, nat_le, nat_lt, List, [], ◌∷◌, ◌++◌, length, take, drop, slice_index}
use Rattle.std.specs.List.{list_any}
use Rattle.std.proofs.Math.Seq.{sets}
use Rattle.disk.specs.Contents.{AgreesWithSynced}
use Rattle.disk.specs.declared.mem_disk.Write.{Write}
use Rattle.disk.specs.declared.mem_disk.Recorded.{Recorded}
use Rattle.disk.specs.declared.mem_disk.Recorded.TheVariants.{Wrote, Synced}

-- whether the write's range has this place
abbrev pub is_in : ℕ → Write → Bool
is_in i w = nat_le w.at i && nat_lt i (w.at + w.count)

-- the content before a write, from that after it
abbrev pub before_write : Write → List ℕ → List ℕ
before_write w now = sets (take w.length_before now) w.at (take w.count w.replaced.items)

abbrev pub before_writes : List Write → List ℕ → List ℕ
before_writes [] now = now
before_writes (w ∷ ws) now = before_write w (before_writes ws now)

abbrev pub before_call : Recorded → List ℕ → List ℕ
before_call (Wrote w) now = before_write w now
before_call Synced now = now

abbrev pub before_calls : List Recorded → List ℕ → List ℕ
before_calls [] now = now
before_calls (call ∷ calls) now = before_call call (before_calls calls now)

-- the writes since the last sync, those in the first list among them
abbrev pub unsynced_with : List Write → List Recorded → List Write
unsynced_with ws [] = ws
unsynced_with ws (Wrote w ∷ calls) = unsynced_with (ws ++ w ∷ []) calls
unsynced_with ws (Synced ∷ calls) = unsynced_with [] calls

abbrev pub unsynced : List Recorded → List Write
unsynced calls = unsynced_with [] calls

-- whether one of the writes was to this place
abbrev pub is_written : List Write → ℕ → Bool
is_written ws i = list_any (is_in i) ws

-- What a stop may leave after these writes. A write doesn't shorten the content, so the greatest length since is that of now.
abbrev pub MayLeave : List Write → List ℕ → List ℕ → Type 0
MayLeave ws now c = AgreesWithSynced (before_writes ws now) (is_written ws) (length now) c

-- what a stop may leave at the moment that many calls had been made
abbrev pub MayLeaveAt : List Recorded → List ℕ → ℕ → List ℕ → Type 0
MayLeaveAt calls now moment c = MayLeave (unsynced (take moment calls)) (before_calls (drop moment calls) now) c

-- what a stop at some moment from t on might have left
pub record MightHaveLeft (calls : List Recorded) (now : List ℕ) (t : ℕ) (c : List ℕ) : Type 0 where
  pub moment : ℕ
  pub no_earlier : t ≤ moment
  pub no_later : moment ≤ length calls
  pub left : MayLeaveAt calls now moment c

-- the record has gained a write of count bytes, which led from this content to that one
pub record IsNoted (old new : List ℕ) (at count : ℕ) (before after : List Recorded) : Type 0 where
  pub write : Write
  pub noted : after ≡ before ++ Wrote write ∷ []
  pub place : write.at ≡ at
  pub size : write.count ≡ count
  pub undone : before_write write new ≡ old
  pub longer : length new ≡ max (length old) (at + count)

-- the byte that a write replaced at a place
abbrev pub replaced_at : Write → ℕ → Option ℕ
replaced_at w i = if is_in i w then slice_get w.replaced.items (i - w.at) else None

-- the synced byte at the place, for a content of this length, with this byte there
abbrev pub IsSyncedByte : List Recorded → ℕ → ℕ → ℕ → ℕ → Type 0
IsSyncedByte calls total place byte synced =
    (now : List ℕ) → length now ≡ total → slice_index now place ≡ byte → slice_index (before_writes (unsynced calls) now) place ≡ synced
