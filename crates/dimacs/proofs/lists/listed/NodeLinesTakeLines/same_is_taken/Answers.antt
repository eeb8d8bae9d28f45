use Rattle.dimacs.specs.Listed.{listed}
use Rattle.dimacs.proofs.AlikeTexts.{text_code_same, items_taken_same, short_words}
use Rattle.dimacs.proofs.lists.listed.NodeLinesTakeLines.same_is_taken.Goals as goal

pub returns-clause-judged : goal.returns-clause-judged
returns-clause-judged g c =
    text_code_same (listed g.I.NodeItem.word g.I.NodeItem.LETTER g.I.NodeItem.quantities g.K.NodeCount.nodes)
    (short_words g.I.NodeItem.word g.I.NodeItem.LETTER g.I.NodeItem.quantities g.K.NodeCount.nodes g.met.I.NodeItem.word_is_short)

pub returns-clause-taken : goal.returns-clause-taken
returns-clause-taken g c earlier one other value same clean taken =
    items_taken_same (listed g.I.NodeItem.word g.I.NodeItem.LETTER g.I.NodeItem.quantities g.K.NodeCount.nodes)
    (short_words g.I.NodeItem.word g.I.NodeItem.LETTER g.I.NodeItem.quantities g.K.NodeCount.nodes g.met.I.NodeItem.word_is_short)
    g.I.NodeItem.says g.met.I.NodeItem.says_by_sizes earlier one other _ _ _ same clean taken
