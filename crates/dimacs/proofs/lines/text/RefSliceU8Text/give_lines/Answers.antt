use Rattle.dimacs.proofs.TextEnds.{given_in_memory, none_failed}
use Rattle.dimacs.proofs.lines.text.RefSliceU8Text.give_lines.Goals as goal

pub returns-clause-lines : goal.returns-clause-lines
returns-clause-lines g c = given_in_memory g.T.TakeLines.judge g.T.TakeLines.has_taken c.args.self.now.now c.parse_lines.result c.parse_lines.ensures

pub returns-clause-counts : goal.returns-clause-counts
returns-clause-counts g c = none_failed g.T.TakeLines.judge g.T.TakeLines.has_taken c.args.self.now.now c.parse_lines.result c.parse_lines.ensures
