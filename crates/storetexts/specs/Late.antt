-- A disk that is made at the first call of it.
use Rattle.std.specs.Prelude.{◌≡◌, Option, None, Some, Result, Ok, Err}

-- the disk that was made, or else the one that is known to be made
abbrev pub made_or_known : {D : Type 0} → Option D → Option D → Option D
made_or_known (Some made) known = Some made
made_or_known None known = known

-- what is said of a disk, or of none
abbrev pub of_disk : {D X : Type 0} → (D → X) → X → Option D → X
of_disk f none (Some disk) = f disk
of_disk f none None = none

-- so much holds of a disk, and there is one
abbrev pub holds_of : {D : Type 0} → (D → Type 0) → Option D → Type 0
holds_of P (Some disk) = P disk
holds_of P None = ⊥

-- where it is known which disk is made, it is that one; else one that does not keep the disk model
abbrev pub GivesKnown : {D E : Type 0} → (D → Type 0) → Option D → Result D E → Type 0
GivesKnown Honest known (Err failed) = Unit {0}
GivesKnown Honest None (Ok disk) = Honest disk → ⊥
GivesKnown Honest (Some known) (Ok disk) = disk ≡ known

-- what a call came to: why there was no disk for it, where it was refused
abbrev pub ended_by : {T E : Type 0} → Option E → Result T E → Result T E
ended_by None outcome = outcome
ended_by (Some refused) outcome = Err refused
