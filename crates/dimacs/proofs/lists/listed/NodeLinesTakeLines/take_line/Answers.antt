use Rattle.dimacs.specs.Lines.{fields}
use Rattle.dimacs.proofs.NodeRows.{takes_ignored, unknown_fault}
use Rattle.dimacs.proofs.lists.listed.NodeLinesTakeLines.take_line.Goals as goal

pub returns-in-Ignored-clause-takes : goal.returns-in-Ignored-clause-takes
returns-in-Ignored-clause-takes g c earlier taken =
    takes_ignored g.I.NodeItem.word g.I.NodeItem.LETTER g.I.NodeItem.quantities g.K.NodeCount.nodes g.met.I.NodeItem.letter_is_no_mark g.met.I.NodeItem.letter_is_no_problem
    g.I.NodeItem.says earlier _ (fields c.args.line.now) _ _ taken c.in-Ignored.ensures

pub returns-in-Unknown-clause-takes : goal.returns-in-Unknown-clause-takes
returns-in-Unknown-clause-takes g c earlier taken =
    unknown_fault g.I.NodeItem.word g.I.NodeItem.LETTER g.I.NodeItem.quantities g.K.NodeCount.nodes g.met.I.NodeItem.letter_is_no_mark g.met.I.NodeItem.letter_is_no_problem
    earlier (fields c.args.line.now) (rw c.LETTER.ensures at c.in-Unknown.ensures)
