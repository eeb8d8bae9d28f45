use Rattle.std.proofs.Common.{take, arith}
use Rattle.filedisk.proofs.MemDisks.{write_keeps, write_tears, front_tears}
use Rattle.filedisk.proofs.mem_file.write_front.Goals as goal

pub returns-clause-tears : goal.returns-clause-tears
returns-clause-tears c =
    front_tears c.args.at c.min-count.result c.args.bytes.now c.args.disk.now c.write_at-outcome.new.self
    (write_tears c.args.at (take c.min-count.result c.args.bytes.now) c.args.disk.now c.write_at-outcome.new.self c.write_at-outcome.result (omega (arith, c.requires.within))
    (c.write_at-outcome.ensures.written tt) (c.write_at-outcome.ensures.failed tt) (c.write_at-outcome.ensures.stop tt) (c.write_at-outcome.ensures.time tt))

pub returns-in_err-answered-clause-tears : goal.returns-in_err-answered-clause-tears
returns-in_err-answered-clause-tears c =
    front_tears c.args.at c.min-count.result c.args.bytes.now c.args.disk.now c.write_at-outcome.new.self
    (write_tears c.args.at (take c.min-count.result c.args.bytes.now) c.args.disk.now c.write_at-outcome.new.self c.write_at-outcome.result (omega (arith, c.requires.within))
    (c.write_at-outcome.ensures.written tt) (c.write_at-outcome.ensures.failed tt) (c.write_at-outcome.ensures.stop tt) (c.write_at-outcome.ensures.time tt))

pub returns-clause-keeps : goal.returns-clause-keeps
returns-clause-keeps c =
    write_keeps c.args.at (take c.min-count.result c.args.bytes.now) c.args.disk.now c.write_at-outcome.new.self _ c.requires.unarmed (returns-clause-tears c).torn.no_shorter c.write_at-outcome.ensures.takes

pub returns-in_err-answered-clause-keeps : goal.returns-in_err-answered-clause-keeps
returns-in_err-answered-clause-keeps c =
    write_keeps c.args.at (take c.min-count.result c.args.bytes.now) c.args.disk.now c.write_at-outcome.new.self _ c.requires.unarmed (returns-in_err-answered-clause-tears c).torn.no_shorter c.write_at-outcome.ensures.takes
