-- The calls that are made of a file of the system, and what they answered.
use Rattle.std.specs.Prelude.{◌≡◌, ◌⊎◌, ◌&&◌, ◌||◌, ℕ, Bool, true, false, List, [], ◌∷◌, ◌++◌, Result, Ok, Err, take, replicate}
use Rattle.std.specs.IoError.{error_kind}
use Rattle.std.specs.declared.io.Error.{Error}
use Rattle.std.specs.declared.io.ErrorKind.{ErrorKind}
use Rattle.std.specs.declared.io.ErrorKind.TheVariants.{Interrupted}
use Rattle.filedisk.specs.declared.notes.Share.{Share}
use Rattle.filedisk.specs.declared.notes.AskedOfFile.{AskedOfFile}
use Rattle.filedisk.specs.declared.notes.AskedOfFile.TheVariants as asked
use Rattle.filedisk.specs.declared.notes.NotedAnswer.{NotedAnswer}
use Rattle.filedisk.specs.declared.notes.NotedAnswer.TheVariants as answer
use Rattle.filedisk.specs.declared.notes.Note.{Note}

-- A call with what it was given: of a read the offset and how many bytes were asked for. A sync is of the data and of all that tells of
-- the file, or of the data and what it takes to read it again.
pub data FileCall : Type 0 where
  Size : FileCall
  Read : (at count : ℕ) → FileCall
  Write : (at : ℕ) (bytes : List ℕ) → FileCall
  Lengthen : (size : ℕ) → FileCall
  SyncAll : FileCall
  SyncData : FileCall
  Lock : Share → FileCall
  SyncFolder : FileCall
  Duplicate : FileCall
  Unlock : FileCall

-- what a call answered: that it is done, a length or how many bytes were written, the bytes that were read, or why it failed
pub data Outcome : Type 0 where
  Done : Outcome
  Told : ℕ → Outcome
  Gave : List ℕ → Outcome
  Failed : ErrorKind → Outcome

abbrev pub NotedCall : Type 0
NotedCall = FileCall × Outcome

-- ---- the calls as the code notes them
abbrev pub file_call_of : AskedOfFile → FileCall
file_call_of asked.Size = Size
file_call_of (asked.Read at count) = Read at count
file_call_of (asked.Write at bytes) = Write at bytes.now
file_call_of (asked.Lengthen size) = Lengthen size
file_call_of asked.SyncAll = SyncAll
file_call_of asked.SyncData = SyncData
file_call_of (asked.Lock share) = Lock share
file_call_of asked.SyncFolder = SyncFolder
file_call_of asked.Duplicate = Duplicate
file_call_of asked.Unlock = Unlock

abbrev pub outcome_of : NotedAnswer → Outcome
outcome_of answer.Done = Done
outcome_of (answer.Told n) = Told n
outcome_of (answer.Gave bytes) = Gave bytes.now
outcome_of (answer.Failed kind) = Failed kind

abbrev pub noted : Note → NotedCall
noted note = (file_call_of note.asked, outcome_of note.answer)

-- ---- what a call answered, by its result
-- of a call that tells a number
abbrev pub told_number : Result ℕ Error → Outcome
told_number (Ok n) = Told n
told_number (Err error) = Failed (error_kind error)

-- of a call that tells nothing
abbrev pub done : {A : Type 0} → Result A Error → Outcome
done (Ok _) = Done
done (Err error) = Failed (error_kind error)

-- of a read that told how many bytes it put at the front of these
abbrev pub gave : List ℕ → Result ℕ Error → Outcome
gave into (Ok n) = Gave (take n into)
gave into (Err error) = Failed (error_kind error)

-- ---- calls that a signal interrupts are made again
-- how often, before the next answer is told whatever it is
abbrev pub most_tries : ℕ
most_tries = 1000000

-- From old to new a read or write was made and answered so, after tries of it that a signal interrupted; that a signal interrupted it
-- is told after so many tries alone.
pub record Makes (call : FileCall) (outcome : Outcome) (old new : List NotedCall) : Type 0 where
  pub tries : ℕ
  pub made : new ≡ (call, outcome) ∷ (replicate tries (call, Failed Interrupted) ++ old)
  pub told_at_last : outcome ≡ Failed Interrupted → tries ≡ most_tries

-- ---- syncs
abbrev pub is_sync : FileCall → Bool
is_sync Size = false
is_sync (Read _ _) = false
is_sync (Write _ _) = false
is_sync (Lengthen _) = false
is_sync SyncAll = true
is_sync SyncData = true
is_sync (Lock _) = false
is_sync SyncFolder = false
is_sync Duplicate = false
is_sync Unlock = false

abbrev pub is_failure : Outcome → Bool
is_failure Done = false
is_failure (Told _) = false
is_failure (Gave _) = false
is_failure (Failed _) = true

-- whether one of the file's syncs failed
abbrev pub has_failed_sync : List NotedCall → Bool
has_failed_sync [] = false
has_failed_sync (call ∷ earlier) = (is_sync call.0 && is_failure call.1) || has_failed_sync earlier

-- whether the call leaves the length synced: a sync of all that tells of the file makes it so, a longer file is not
abbrev pub keeps_length_synced : FileCall → Outcome → Bool → Bool
keeps_length_synced Size outcome before = before
keeps_length_synced (Read _ _) outcome before = before
keeps_length_synced (Write _ _) outcome before = before
keeps_length_synced (Lengthen _) outcome before = false
keeps_length_synced SyncAll Done before = true
keeps_length_synced SyncAll (Told _) before = before
keeps_length_synced SyncAll (Gave _) before = before
keeps_length_synced SyncAll (Failed _) before = before
keeps_length_synced SyncData outcome before = before
keeps_length_synced (Lock _) outcome before = before
keeps_length_synced SyncFolder outcome before = before
keeps_length_synced Duplicate outcome before = before
keeps_length_synced Unlock outcome before = before

-- whether the length is as it was at a sync of all that tells of the file
abbrev pub has_synced_length : List NotedCall → Bool
has_synced_length [] = false
has_synced_length (call ∷ earlier) = keeps_length_synced call.0 call.1 (has_synced_length earlier)

-- From old to new the file was synced, with this outcome; of the data alone only where the length is synced.
abbrev pub MakesSync : Outcome → (old new : List NotedCall) → Type 0
MakesSync outcome old new = (new ≡ (SyncAll, outcome) ∷ old) ⊎ ((has_synced_length old ≡ true) × (new ≡ (SyncData, outcome) ∷ old))
