use Rattle.dimacs.proofs.AlikeGroups.{group_code_same, groups_taken_same}
use Rattle.dimacs.proofs.commands.group_lines.GroupLinesTakeLines.same_is_taken.Goals as goal

pub returns-clause-judged : goal.returns-clause-judged
returns-clause-judged c = group_code_same

pub returns-clause-taken : goal.returns-clause-taken
returns-clause-taken c = groups_taken_same
