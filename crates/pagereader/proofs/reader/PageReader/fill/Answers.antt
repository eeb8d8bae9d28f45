use Rattle.std.proofs.Common.{◌*◌, drop, arith}
use Rattle.pagereader.proofs.Runs.{front_is}
use Rattle.pagereader.proofs.reader.PageReader.fill.Goals as goal

pub returns-clause-run : goal.returns-clause-run
returns-clause-run g c h =
    front_is (4096 * c.min-count.result) c.self.inside.buffer.len c.read_run.new.buffer c.self.inside.buffer.items (drop (4096 * c.args.k) (g.D.Disk.content c.args.disk.now))
    (omega arith) (omega arith) (c.in_ok-read_run.ensures.bytes h)
