-- With what a file that is there is not opened for a disk.
use Rattle.std.specs.Prelude.{⊤}
use Rattle.std.specs.declared.io.ErrorKind.{ErrorKind}
use Rattle.std.specs.declared.io.ErrorKind.TheVariants.{NotFound, PermissionDenied, ReadOnlyFilesystem, IsADirectory, WouldBlock}
use Rattle.filedisk.specs.declared.causes.Cause.{Cause}
use Rattle.filedisk.specs.declared.opened.OpenError.{OpenError}
use Rattle.filedisk.specs.declared.opened.OpenError.TheVariants.{Missing, NotPermitted, ReadOnly, NotOpened, Folder, NoFile, InUse, NoLocks}

-- why a file is not opened, by the kind of the cause; one of no such kind is told itself
abbrev pub unopened_by : ErrorKind → Cause → OpenError
unopened_by NotFound cause = Missing
unopened_by PermissionDenied cause = NotPermitted
unopened_by ReadOnlyFilesystem cause = ReadOnly
unopened_by IsADirectory cause = Folder
unopened_by _ cause = NotOpened cause

-- why a file is not opened at whose opening the system failed so
abbrev pub why_unopened : Cause → OpenError
why_unopened cause = unopened_by cause.kind cause

-- why a file is not locked at whose locking the system failed so
abbrev pub why_unlocked : ErrorKind → OpenError
why_unlocked WouldBlock = InUse
why_unlocked _ = NoLocks

-- it is not locked
abbrev pub IsUnlocked : OpenError → Type 0
IsUnlocked InUse = ⊤
IsUnlocked NoLocks = ⊤
IsUnlocked other = ⊥

-- it can't be opened, is no file, or is not locked: no name is made durable, and no memory is asked for
abbrev pub IsNotHad : OpenError → Type 0
IsNotHad Missing = ⊤
IsNotHad NotPermitted = ⊤
IsNotHad ReadOnly = ⊤
IsNotHad (NotOpened cause) = ⊤
IsNotHad Folder = ⊤
IsNotHad NoFile = ⊤
IsNotHad InUse = ⊤
IsNotHad NoLocks = ⊤
IsNotHad other = ⊥
