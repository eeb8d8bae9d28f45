-- What is told of: the stream or the disk that another one wraps.
use Rattle.progress.specs.declared.streams.TellingReader.{TellingReader}
use Rattle.progress.specs.declared.streams.TellingWriter.{TellingWriter}
use Rattle.progress.specs.declared.disks.TellingDisk.{TellingDisk}

abbrev pub reader_inside : {R S : Type 0} → TellingReader R S → S
reader_inside reader = reader.stream

abbrev pub writer_inside : {R S : Type 0} → TellingWriter R S → S
writer_inside writer = writer.stream

abbrev pub disk_inside : {R D : Type 0} → TellingDisk R D → D
disk_inside telling = telling.disk
