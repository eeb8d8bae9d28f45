-- Which calls of its file a call of a disk over it makes.
use Rattle.std.specs.Prelude.{◌≡◌, ◌⊎◌, ◌+◌, ◌-◌, ◌^◌, ◌<◌, ◌≤◌, ◌==◌, ℕ, zero, suc, Bool, true, false, List, [], ◌∷◌, ◌++◌, length, drop}
use Rattle.disk.specs.Calls.{DiskCall, Len, Read, Write, Sync}
use Rattle.std.specs.declared.io.ErrorKind.{ErrorKind}
use Rattle.filedisk.specs.Noted as noted
use Rattle.filedisk.specs.Noted.{FileCall, NotedCall, Outcome, Size, Lengthen, Done, Told, Gave, Failed, Makes, MakesSync, has_failed_sync}
use Rattle.filedisk.specs.declared.file_disk.FileDisk.{FileDisk}

-- From old to new the file told its length, and was made as long as to this end where it was shorter.
abbrev pub MakesRoom : (end : ℕ) (old new : List NotedCall) → Type 0
MakesRoom end old new = (size : ℕ) × (((end ≤ size) × (new ≡ (Size, Told size) ∷ old)) ⊎ ((size < end) × (new ≡ (Lengthen end, Done) ∷ (Size, Told size) ∷ old)))

-- From old to new the first of these bytes, so many of them, were written from this offset on, each piece right behind the one before.
abbrev pub WritesPieces : (at : ℕ) (bytes : List ℕ) (old : List NotedCall) (pieces written : ℕ) (new : List NotedCall) → Type 0
WritesPieces at bytes old zero written new = (written ≡ 0) × (new ≡ old)
WritesPieces at bytes old (suc pieces) written new =
    (before : ℕ) × (count : ℕ) × (mid : List NotedCall) × WritesPieces at bytes old pieces before mid
    × (0 < count) × (written ≡ before + count) × Makes (noted.Write (at + before) (drop before bytes)) (Told count) mid new

-- all of them
abbrev pub WritesAll : (at : ℕ) (bytes : List ℕ) (old new : List NotedCall) → Type 0
WritesAll at bytes old new = (pieces : ℕ) × WritesPieces at bytes old pieces (length bytes) new

-- the same, after room was made for them
abbrev pub WritesWhole : (at : ℕ) (bytes : List ℕ) (old new : List NotedCall) → Type 0
WritesWhole at bytes old new = (mid : List NotedCall) × MakesRoom (at + length bytes) old mid × WritesAll at bytes mid new

-- From old to new these bytes were given from this offset on, where so many were asked for, each piece right behind the one before.
abbrev pub ReadsPieces : (at count : ℕ) (old : List NotedCall) (pieces : ℕ) (bytes : List ℕ) (new : List NotedCall) → Type 0
ReadsPieces at count old zero bytes new = (bytes ≡ []) × (new ≡ old)
ReadsPieces at count old (suc pieces) bytes new =
    (before : List ℕ) × (piece : List ℕ) × (mid : List NotedCall) × ReadsPieces at count old pieces before mid
    × (0 < length piece) × (bytes ≡ before ++ piece) × Makes (noted.Read (at + length before) (count - length before)) (Gave piece) mid new

-- all that were asked for
abbrev pub ReadsAll : (at : ℕ) (bytes : List ℕ) (old new : List NotedCall) → Type 0
ReadsAll at bytes old new = (pieces : ℕ) × ReadsPieces at (length bytes) old pieces bytes new

-- the calls of a call of the disk that succeeds
abbrev pub MadeBy : DiskCall → (old new : List NotedCall) → Type 0
MadeBy Len old new = (size : ℕ) × (new ≡ (Size, Told size) ∷ old)
MadeBy (Read at count) old new = (bytes : List ℕ) × (length bytes ≡ count) × ReadsAll at bytes old new
MadeBy (Write at bytes) old new = WritesWhole at bytes old new
MadeBy Sync old new = (has_failed_sync old ≡ false) × MakesSync Done old new

-- ---- where it fails
-- the call failed, or did nothing where something was asked for
abbrev pub did_nothing : Outcome → Bool
did_nothing Done = false
did_nothing (Told count) = count == 0
did_nothing (Gave bytes) = length bytes == 0
did_nothing (Failed _) = true

-- From old to new a call at this offset was made and failed or did nothing, or was not made, since there is no such offset.
abbrev pub EndsPieces : (place : ℕ) (call : FileCall) (old new : List NotedCall) → Type 0
EndsPieces place call old new = ((2 ^ 64 ≤ place) × (new ≡ old)) ⊎ ((outcome : Outcome) × (did_nothing outcome ≡ true) × Makes call outcome old new)

-- some first bytes, and then no more
abbrev pub WritesPart : (at : ℕ) (bytes : List ℕ) (old new : List NotedCall) → Type 0
WritesPart at bytes old new =
    (pieces : ℕ) × (written : ℕ) × (mid : List NotedCall) × WritesPieces at bytes old pieces written mid
    × EndsPieces (at + written) (noted.Write (at + written) (drop written bytes)) mid new

abbrev pub ReadsPart : (at count : ℕ) (old new : List NotedCall) → Type 0
ReadsPart at count old new =
    (pieces : ℕ) × (bytes : List ℕ) × (mid : List NotedCall) × ReadsPieces at count old pieces bytes mid
    × EndsPieces (at + length bytes) (noted.Read (at + length bytes) (count - length bytes)) mid new

-- From old to new no length was told, or there is no such end, or the file was not made so long.
abbrev pub FailsRoom : (end : ℕ) (old new : List NotedCall) → Type 0
FailsRoom end old new =
    ((kind : ErrorKind) × (new ≡ (Size, Failed kind) ∷ old))
    ⊎ ((size : ℕ) × (((2 ^ 64 ≤ end) × (new ≡ (Size, Told size) ∷ old)) ⊎ ((kind : ErrorKind) × (size < end) × (new ≡ (Lengthen end, Failed kind) ∷ (Size, Told size) ∷ old))))

abbrev pub FailsWhole : (at : ℕ) (bytes : List ℕ) (old new : List NotedCall) → Type 0
FailsWhole at bytes old new = FailsRoom (at + length bytes) old new ⊎ ((mid : List NotedCall) × MakesRoom (at + length bytes) old mid × WritesPart at bytes mid new)

-- the calls of a call of the disk that fails
abbrev pub FailedBy : DiskCall → (old new : List NotedCall) → Type 0
FailedBy Len old new = (kind : ErrorKind) × (new ≡ (Size, Failed kind) ∷ old)
FailedBy (Read at count) old new = ReadsPart at count old new
FailedBy (Write at bytes) old new = FailsWhole at bytes old new
FailedBy Sync old new = ((has_failed_sync old ≡ true) × (new ≡ old)) ⊎ ((has_failed_sync old ≡ false) × (kind : ErrorKind) × MakesSync (Failed kind) old new)

-- From the one disk to the other, which calls of the file this call of the disk made, as it succeeded or failed.
abbrev pub FileTakes : {F : Type 0} → (F → List NotedCall) → FileDisk F → DiskCall → Bool → FileDisk F → Type 0
FileTakes calls old call ok new =
    (ok ≡ true → MadeBy call (calls old.file) (calls new.file)) × (ok ≡ false → FailedBy call (calls old.file) (calls new.file))
