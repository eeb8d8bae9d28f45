use Rattle.dimacs.proofs.Others.{comment_passes}
use Rattle.dimacs.proofs.graphs.gr_lines.GrLinesTakeLines.pass_comment.Goals as goal

pub returns : goal.returns
returns c earlier row e taken = comment_passes earlier row c.args.self.now e taken
