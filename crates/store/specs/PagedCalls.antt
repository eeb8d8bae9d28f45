-- What the calls of a store's pages do, in one word each.
use Rattle.std.specs.Prelude.{◌≡◌, ◌≢◌, ◌↔◌, true, ℕ, List, Option, Some, None, Result, OnOk, IfErr, MatchResult}
use Rattle.disk.specs.declared.disk.Disk.{Ghosts}
use Rattle.disk.specs.Contents.{Rose}
use Rattle.disk.specs.Moments.{LeavesOnly, AddsNothing}
use Rattle.roadnet.specs.declared.commands.Command.{Command}
use Rattle.roadnet.specs.declared.refusals.Refusal.{Refusal}
use Rattle.roadnet.specs.declared.refusals.Refusal.TheVariants.{OutOfMemory, Device}
use Rattle.pages.specs.Layout.{slot_pages}
use Rattle.pagereader.specs.Outcomes.{failures_told}
use Rattle.storefile.specs.StoreFile.{StandsTidyFor}
use Rattle.storefile.specs.Standing.{standing_of, IsBeforeOrAfter}
use Rattle.store.specs.declared.paged.state.Paged.{Paged}
use Rattle.store.specs.Committing.{HasTidyStanding, refusal_of_commit, MayRefuseCommit}
use Rattle.store.specs.Checkpointing.{refusal_of_checkpoint, MayRefuseCheckpoint}
use Rattle.store.specs.Durable.{told_by, going_of}

-- ---- what stays, and what is refused

-- the durable network and its version stay, and so does the place of the journal page that is written next
pub record KeepsDurable {D : Type 0} {disk : Ghosts D} (old new : Paged D disk) : Type 0 where
  pub network : new.found.network ≡ old.found.network
  pub version : new.found.version ≡ old.found.version
  pub header : new.found.header ≡ old.found.header
  pub next : new.found.next_sequence ≡ old.found.next_sequence

-- The count of failures rises by one where a failure of the disk is told, and else not at all: none is passed over. The disk failed in this call
-- then, and the store is broken. The disk is honest after the call where it was before.
pub record TellsFailures {D T : Type 0} {disk : Ghosts D} (result : Result T Refusal) (old new : Paged D disk) : Type 0 where
  pub counted : disk.failures new.disk ≡ failures_told result (disk.failures old.disk)
  pub failed : IfErr result (λ refusal. refusal ≡ Device → Rose (disk.failures old.disk) (disk.failures new.disk))
  pub breaks : IfErr result (λ refusal. refusal ≡ Device → new.broken ≡ true)
  pub honest : disk.honest new.disk ↔ disk.honest old.disk

-- A checkpoint refuses where the store is broken; and where it is not, for want of memory where one would begin, or where the disk failed in this
-- call. Nothing is changed by a refusal but that one, and a broken store makes no call of its disk.
pub record RefusesCheckpoint {D T : Type 0} {disk : Ghosts D} (result : Result T Refusal) (old new : Paged D disk) : Type 0 where
  pub refused : MatchResult result (λ _. refusal_of_checkpoint old.broken ≡ None) (MayRefuseCheckpoint (refusal_of_checkpoint old.broken))
  pub memory : IfErr result (λ refusal. refusal ≡ OutOfMemory → going_of old ≡ None)
  pub same : IfErr result (λ refusal. refusal ≢ Device → new ≡ old)
  pub adds_nothing : old.broken ≡ true → AddsNothing disk.moment disk.left_since old.disk new.disk

-- why a commit of these groups is refused whatever memory and the disk give
abbrev pub commit_refusal_by : {D : Type 0} {disk : Ghosts D} → Paged D disk → List (List Command) → Option Refusal
commit_refusal_by s groups = refusal_of_commit s.broken s.found.version s.found.unchecked s.found.header.journal_pages s.found.network groups

-- network, version and the numbers of the journal stay
abbrev pub KeepsNumbers : {D : Type 0} {disk : Ghosts D} → Paged D disk → Paged D disk → Type 0
KeepsNumbers old new = (new.found.network ≡ old.found.network) × (new.found.version ≡ old.found.version) × (new.found.unchecked ≡ old.found.unchecked) × (new.found.next_sequence ≡ old.found.next_sequence)

-- ---- what the content stands for, over an honest disk

-- the content stands, tidily, for what the fields tell
abbrev pub AreTidyPages : {D : Type 0} {disk : Ghosts D} → Paged D disk → Type 0
AreTidyPages {D} {disk} s = HasTidyStanding (disk.content s.disk) (told_by s)

-- so it does after Ok, where it did before
abbrev pub KeepsStanding : {D T : Type 0} {disk : Ghosts D} → Result T Refusal → Paged D disk → Paged D disk → Type 0
KeepsStanding {D} {T} {disk} result old new = disk.honest old.disk → AreTidyPages old → OnOk result (AreTidyPages new)

-- the same, tidily or not
abbrev pub KeepsAsTold : {D T : Type 0} {disk : Ghosts D} → Result T Refusal → Paged D disk → Paged D disk → Type 0
KeepsAsTold {D} {T} {disk} result old new =
    disk.honest old.disk → standing_of (disk.content old.disk) ≡ Some (told_by old) → OnOk result (standing_of (disk.content new.disk) ≡ Some (told_by new))

-- this content stands for the network and version of these pages, or for those after these groups too
abbrev pub IsFor : {D : Type 0} {disk : Ghosts D} → Paged D disk → List ℕ → Type 0
IsFor s c = StandsTidyFor s.found.header.journal_pages (slot_pages s.found.header) c s.found.network s.found.version

abbrev pub IsForOrAfter : {D : Type 0} {disk : Ghosts D} → Paged D disk → List (List Command) → List ℕ → Type 0
IsForOrAfter s groups c = IsBeforeOrAfter s.found.header.journal_pages (slot_pages s.found.header) s.found.network s.found.version groups c

-- a stop at any moment of the call leaves such a content
abbrev pub LeavesFor : {D : Type 0} {disk : Ghosts D} → Paged D disk → Paged D disk → Type 0
LeavesFor {D} {disk} old new = disk.honest old.disk → AreTidyPages old → LeavesOnly disk.moment disk.left_since old.disk new.disk (IsFor old)

abbrev pub LeavesForOrAfter : {D : Type 0} {disk : Ghosts D} → List (List Command) → Paged D disk → Paged D disk → Type 0
LeavesForOrAfter {D} {disk} groups old new =
    disk.honest old.disk → AreTidyPages old → LeavesOnly disk.moment disk.left_since old.disk new.disk (IsForOrAfter old groups)

-- so does a stop after the call
abbrev pub StaysFor : {D : Type 0} {disk : Ghosts D} → Paged D disk → Paged D disk → Type 0
StaysFor {D} {disk} old new = disk.honest old.disk → AreTidyPages old → (c : List ℕ) → disk.left new.disk c → IsFor old c

abbrev pub StaysForOrAfter : {D : Type 0} {disk : Ghosts D} → List (List Command) → Paged D disk → Paged D disk → Type 0
StaysForOrAfter {D} {disk} groups old new = disk.honest old.disk → AreTidyPages old → (c : List ℕ) → disk.left new.disk c → IsForOrAfter old groups c
