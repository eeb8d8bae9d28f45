-- What a file of the system shows.
use Rattle.std.specs.Prelude.{List}
use Rattle.filedisk.specs.Noted.{NotedCall}
use Rattle.filedisk.specs.declared.system.NotedFile.{NotedFile}
use Rattle.filedisk.specs.declared.system.FileLock.{FileLock}
use Rattle.filedisk.specs.declared.system_file.SystemFile.{SystemFile}
use Rattle.filedisk.specs.declared.file_disk.FileDisk.{FileDisk}

-- the calls that were made of the file, the newest first
abbrev pub calls_made : {F : Type 0} → NotedFile F → List NotedCall
calls_made file = file.notes.calls

abbrev pub calls_of : FileDisk SystemFile → List NotedCall
calls_of disk = calls_made disk.file.file

-- the calls that were made of the file of a lock: those before its handle was made, and then those by that handle
abbrev pub calls_by : FileLock → List NotedCall
calls_by lock = calls_made lock.file
