-- What texts and disks say where a call failed.
use Rattle.std.specs.Prelude.{◌≡◌, ◌≤◌, ◌↔◌, ℕ, Result, Ok, Err, ⊤}
use Rattle.roadnet.specs.declared.refusals.Refusal.TheVariants.{Write, Device, NotEmpty, OutOfMemory, TooManyLandmarks}
use Rattle.disk.specs.declared.disk.Disk.{Ghosts}
use Rattle.disk.specs.Moments.{StaysSame}
use Rattle.pagereader.specs.Outcomes.{failures_with, MayEndOpening}
use Rattle.printing.specs.declared.failed.Failed.{Failed}
use Rattle.printing.specs.declared.failed.Failed.TheVariants.{Text, Code}

-- all is done but for what the writer sends out
abbrev pub IfDone : Result (Unit {0}) Failed → Type 0 → Type 0
IfDone (Ok done) made = made
IfDone (Err (Code Write)) made = made
IfDone (Err failed) made = ⊤

-- neither the disk nor the writer failed
abbrev pub IfNoDevice : Failed → Type 0 → Type 0
IfNoDevice (Code Write) same = ⊤
IfNoDevice (Code Device) same = ⊤
IfNoDevice failed same = same

-- a text is refused, for its fault or for too many landmarks
abbrev pub IfOfTexts : Failed → Type 0 → Type 0
IfOfTexts (Text which fault) same = same
IfOfTexts (Code TooManyLandmarks) same = same
IfOfTexts (Code refusal) same = ⊤

-- the disk is not empty
abbrev pub IfNotEmpty : Failed → Type 0 → Type 0
IfNotEmpty (Code NotEmpty) some = some
IfNotEmpty failed some = ⊤

-- no memory was given
abbrev pub IfNoMemory : Failed → Type 0 → Type 0
IfNoMemory (Code OutOfMemory) made = made
IfNoMemory other made = ⊤

-- a fault of the call's one text, or the writer failed, or a refusal with which an opening may end: nothing else
abbrev pub IsOfStore : Failed → Type 0
IsOfStore (Text which fault) = which ≡ 0
IsOfStore (Code Write) = ⊤
IsOfStore (Code refusal) = MayEndOpening refusal

-- the same of a call with two texts
abbrev pub IsOfTwoTexts : Failed → Type 0
IsOfTwoTexts (Text which fault) = which ≤ 1
IsOfTwoTexts (Code Write) = ⊤
IsOfTwoTexts (Code refusal) = MayEndOpening refusal

-- The disk's count of failures rose by one where 43 is told, and is else as it was. A failed write may be told in place of 43.
abbrev pub CountsDevice : {X : Type 0} → ℕ → ℕ → Result X Failed → Type 0
CountsDevice old new (Ok done) = new ≡ old
CountsDevice old new (Err (Text which fault)) = new ≡ old
CountsDevice old new (Err (Code Write)) = ⊤
CountsDevice old new (Err (Code refusal)) = new ≡ failures_with refusal old

-- The disk that an opening hands back was read alone: over an honest disk the content stays, and a stop may leave nothing that it might not have left before. It has so many failures.
pub record ComesBack {D : Type 0} (disk : Ghosts D) (failures : ℕ) (old new : D) : Type 0 where
  pub same : disk.honest old → StaysSame disk.content disk.left disk.moment disk.left_since old new
  pub counted : disk.failures new ≡ failures
  pub honest : disk.honest new ↔ disk.honest old
