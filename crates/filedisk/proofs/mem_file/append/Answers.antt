use Rattle.std.proofs.Common.{length, arith}
use Rattle.disk.specs.MemDisk.{bytes_of}
use Rattle.filedisk.specs.Files.{Tears}
use Rattle.filedisk.specs.MemFiles.{left_of, moment_of, left_since_of}
use Rattle.filedisk.proofs.MemDisks.{write_keeps, write_tears}
use Rattle.filedisk.proofs.mem_file.append.Goals as goal

pub returns-in-Err-clause-tears : goal.returns-in-Err-clause-tears
returns-in-Err-clause-tears c =
    write_tears c.args.end c.args.bytes.now c.args.disk.now c.write_at.new.self c.write_at.result (omega (arith, c.requires.end))
    (c.write_at.ensures.written tt) (c.write_at.ensures.failed tt) (c.write_at.ensures.stop tt) (c.write_at.ensures.time tt)

pub returns-in-Ok-clause-keeps : goal.returns-in-Ok-clause-keeps
returns-in-Ok-clause-keeps c =
    let tears : Tears c.args.end (length c.args.bytes.now) bytes_of left_of moment_of left_since_of c.args.disk.now c.write_at.new.self =
    write_tears c.args.end c.args.bytes.now c.args.disk.now c.write_at.new.self c.write_at.result (omega (arith, c.requires.end))
    (c.write_at.ensures.written tt) (c.write_at.ensures.failed tt) (c.write_at.ensures.stop tt) (c.write_at.ensures.time tt) in
    write_keeps c.args.end c.args.bytes.now c.args.disk.now c.write_at.new.self _ c.requires.unarmed tears.torn.no_shorter c.write_at.ensures.takes

pub returns-in-Err-clause-keeps : goal.returns-in-Err-clause-keeps
returns-in-Err-clause-keeps c =
    write_keeps c.args.end c.args.bytes.now c.args.disk.now c.write_at.new.self _ c.requires.unarmed (returns-in-Err-clause-tears c).torn.no_shorter c.write_at.ensures.takes
