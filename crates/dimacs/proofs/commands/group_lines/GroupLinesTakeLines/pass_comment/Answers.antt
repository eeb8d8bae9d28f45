use Rattle.dimacs.proofs.GroupRows.{takes_remark}
use Rattle.dimacs.proofs.commands.group_lines.GroupLinesTakeLines.pass_comment.Goals as goal

pub returns : goal.returns
returns c earlier row e has = takes_remark earlier c.args.self.now has row e
