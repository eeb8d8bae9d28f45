-- Why a checkpoint is refused.
use Rattle.std.specs.Prelude.{◌≡◌, ◌⊎◌, Bool, Option, Some, None, if◌then◌else◌}
use Rattle.roadnet.specs.declared.refusals.Refusal.{Refusal}
use Rattle.roadnet.specs.declared.refusals.Refusal.TheVariants.{Broken, OutOfMemory, Device}

-- Why a checkpoint is refused whatever memory and the disk give, or nothing: the store is broken.
abbrev pub refusal_of_checkpoint : Bool → Option Refusal
refusal_of_checkpoint broken = if broken then Some Broken else None

-- With what a checkpoint may refuse that has this cause: with the cause; and where there is none, for want of memory or since the disk failed.
abbrev pub MayRefuseCheckpoint : Option Refusal → Refusal → Type 0
MayRefuseCheckpoint cause refusal = (cause ≡ Some refusal) ⊎ ((cause ≡ None) × ((refusal ≡ OutOfMemory) ⊎ (refusal ≡ Device)))
