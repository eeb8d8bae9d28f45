-- What a call that reads a file answers.
use Rattle.std.specs.Prelude.{◌≡◌, ◌⊎◌, ℕ, Bool, true, false, IsTrue, Result, Ok, Err}
use Rattle.disk.specs.Contents.{one_more}
use Rattle.roadnet.specs.declared.refusals.Refusal.{Refusal}
use Rattle.roadnet.specs.declared.refusals.Refusal.TheVariants.{OutOfMemory, NotAStore, WrongFormat, Damaged, Device}

-- the disk's count of failures after a call that was refused so: it rises by one where 43 is told, and only there
abbrev pub failures_with : Refusal → ℕ → ℕ
failures_with Device n = one_more n
failures_with _ n = n

-- the same after a call that returned this
abbrev pub failures_told : {T : Type 0} → Result T Refusal → ℕ → ℕ
failures_told (Ok _) n = n
failures_told (Err refusal) n = failures_with refusal n

-- the refusals with which an opening may end, whatever the disk: no store, another format, a damaged page, no memory, a disk that failed
abbrev pub ends_opening : Refusal → Bool
ends_opening NotAStore = true
ends_opening WrongFormat = true
ends_opening (Damaged page) = true
ends_opening OutOfMemory = true
ends_opening Device = true
ends_opening _ = false

abbrev pub MayEndOpening : Refusal → Type 0
MayEndOpening refusal = IsTrue (ends_opening refusal)

-- no failure of the disk is told
abbrev pub IsQuiet : {T : Type 0} → Result T Refusal → Type 0
IsQuiet result = (n : ℕ) → failures_told result n ≡ n

-- With what a call that makes no call of the disk may refuse, where the bytes say this: what they say, or want of memory.
abbrev pub MayLack : {Y : Type 0} → Result Y Refusal → Refusal → Type 0
MayLack said refusal = (refusal ≡ OutOfMemory) ⊎ (said ≡ Err refusal)

-- With what a call may refuse where the file's bytes say this: what they say, or want of memory, or a failure of the disk.
abbrev pub MayRefuse : {Y : Type 0} → Result Y Refusal → Refusal → Type 0
MayRefuse said refusal = (refusal ≡ OutOfMemory) ⊎ ((refusal ≡ Device) ⊎ (said ≡ Err refusal))
