use Rattle.dimacs.proofs.TextEnds.{given_by_reader}
use Rattle.dimacs.proofs.lines.text.CountedText.give_lines.Goals as goal

pub returns-clause-read : goal.returns-clause-read
returns-clause-read g c = given_by_reader g.T.TakeLines.judge g.T.TakeLines.has_taken _ _ c.read_lines.result c.read_lines.ensures.read
