use Rattle.dimacs.proofs.GroupCodes.{group_overflows}
use Rattle.dimacs.proofs.commands.group_lines.GroupLinesTakeLines.overflow_decides.Goals as goal

pub returns : goal.returns
returns c earlier before field after e other = group_overflows earlier before field after e other
