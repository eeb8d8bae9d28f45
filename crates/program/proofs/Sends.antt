-- A store's file may go to another thread.
use denote.Param.Send.{IsSend, sendable}
use Rattle.std.proofs.Crossing.{crosses}
use Rattle.filedisk.proofs.causes.Failure.TheSendSync as Failures
use Rattle.filedisk.specs.contracts.system_file.SystemFile as SystemFile
use Rattle.filedisk.specs.contracts.file_disk.FileDisk as FileDisk

system_file_send : IsSend SystemFile.the_row
system_file_send = search (Failures.the_send, sendable, crosses) depth 20

pub file_disk_send : IsSend (FileDisk.the_row SystemFile.the_row)
file_disk_send = search (system_file_send, sendable, crosses) depth 20
