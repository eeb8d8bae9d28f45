use Rattle.std.proofs.Common.{◌≡◌, ◌-◌, length, arith}
use Rattle.disk.specs.MemDisk.{bytes_of}
use Rattle.filedisk.proofs.MemDisks.{tears_after_same}
use Rattle.filedisk.proofs.mem_file.grow.Goals as goal

pub returns-in-Ok-clause-tears : goal.returns-in-Ok-clause-tears
returns-in-Ok-clause-tears c =
    let long : length c.as_slice.result.now ≡ c.args.size - length (bytes_of c.args.disk.now) = omega (arith, c.as_slice.ensures.len, c.in-Ok.ensures.len, c.in_ok-end.ensures.length) in
    tears_after_same (length (bytes_of c.args.disk.now)) (c.args.size - length (bytes_of c.args.disk.now)) c.in_ok-end.end (length c.as_slice.result.now) c.args.disk.now c.size_of.new.disk c.append.new.disk
    c.size_of.ensures.same c.in_ok-end.ensures.length long c.append.ensures.tears c.append.ensures.keeps
