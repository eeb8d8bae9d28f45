use Rattle.dimacs.specs.Lines.{fields}
use Rattle.dimacs.proofs.Others.{takes_ignored, unknown_fault}
use Rattle.dimacs.proofs.graphs.gr_lines.GrLinesTakeLines.take_line.Goals as goal

pub returns-in-Ignored-clause-takes : goal.returns-in-Ignored-clause-takes
returns-in-Ignored-clause-takes c earlier taken = takes_ignored earlier (fields c.args.line.now) c.args.self.now taken c.in-Ignored.ensures

pub returns-in-Unknown-clause-takes : goal.returns-in-Unknown-clause-takes
returns-in-Unknown-clause-takes c earlier taken = unknown_fault earlier (fields c.args.line.now) c.in-Unknown.ensures
