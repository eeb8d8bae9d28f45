-- What a call does to a disk, in one word each: for contracts of calls over any disk.
use Rattle.std.specs.Prelude.{◌≡◌, ◌↔◌, List, ℕ, Result, OnOk}
use Rattle.disk.specs.declared.disk.Disk.{Ghosts}
use Rattle.disk.specs.Contents.{Only, failures_after}
use Rattle.disk.specs.Moments.{LeavesOnly, StaysSame}

-- Each failure of the call is counted, and the disk is honest after it where it was before. So it is in each of the following.
pub record Counts {D T E : Type 0} (disk : Ghosts D) (result : Result T E) (old new : D) : Type 0 where
  pub counted : disk.failures new ≡ failures_after result (disk.failures old)
  pub honest : disk.honest new ↔ disk.honest old

-- The call reads alone: over an honest disk the content stays, and a stop may leave nothing that it might not have left before.
pub record ReadsDisk {D T E : Type 0} (disk : Ghosts D) (result : Result T E) (old new : D) : Type 0 where
  pub same : disk.honest old → StaysSame disk.content disk.left disk.moment disk.left_since old new
  pub counted : disk.failures new ≡ failures_after result (disk.failures old)
  pub honest : disk.honest new ↔ disk.honest old

-- The call writes: over an honest disk a stop at any moment of it leaves what has P.
pub record WritesUnsynced {D T E : Type 0} (disk : Ghosts D) (P : List ℕ → Type 0) (result : Result T E) (old new : D) : Type 0 where
  pub any_moment : disk.honest old → LeavesOnly disk.moment disk.left_since old new P
  pub counted : disk.failures new ≡ failures_after result (disk.failures old)
  pub honest : disk.honest new ↔ disk.honest old

-- The same with a sync behind its last write: after Ok a stop leaves the content alone.
pub record WritesDisk {D T E : Type 0} (disk : Ghosts D) (P : List ℕ → Type 0) (result : Result T E) (old new : D) : Type 0 where
  pub any_moment : disk.honest old → LeavesOnly disk.moment disk.left_since old new P
  pub at_rest : disk.honest old → OnOk result (Only (disk.content new) (disk.left new))
  pub counted : disk.failures new ≡ failures_after result (disk.failures old)
  pub honest : disk.honest new ↔ disk.honest old
