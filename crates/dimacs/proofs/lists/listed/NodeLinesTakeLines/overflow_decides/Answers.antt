use Rattle.dimacs.proofs.BeyondTexts.{listed_overflows}
use Rattle.dimacs.proofs.lists.listed.NodeLinesTakeLines.overflow_decides.Goals as goal

pub returns : goal.returns
returns g c earlier before field after e other =
    listed_overflows g.I.NodeItem.word g.I.NodeItem.LETTER g.I.NodeItem.quantities g.K.NodeCount.nodes g.met.I.NodeItem.letter_is_no_problem g.met.I.NodeItem.word_is_short g.met.I.NodeItem.numbers_are_few
    earlier before field after e other
