use Rattle.dimacs.specs.Commanded.{group_text}
use Rattle.dimacs.specs.CommandReading.{HasGroups}
use Rattle.dimacs.proofs.TextEnds.{read_ended}
use Rattle.dimacs.proofs.commands.group_lines.read_commands.Goals as goal

pub returns-clause-read : goal.returns-clause-read
returns-clause-read g c = read_ended group_text HasGroups _ _ c.in_ok-ended.ended _ c.in_ok-ended.ensures.read c.groups_at_end.ensures.ends
