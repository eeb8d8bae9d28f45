use Rattle.dimacs.proofs.NodeRows.{comment_passes}
use Rattle.dimacs.proofs.lists.listed.NodeLinesTakeLines.pass_comment.Goals as goal

pub returns : goal.returns
returns g c earlier row e taken =
    comment_passes g.I.NodeItem.word g.I.NodeItem.LETTER g.I.NodeItem.quantities g.K.NodeCount.nodes g.met.I.NodeItem.letter_is_no_mark g.met.I.NodeItem.letter_is_no_problem
    g.I.NodeItem.says earlier _ row _ _ e taken
