use Rattle.std.proofs.Common.{sym, arith}
use Rattle.dimacs.proofs.NodeRows.{too_few, enough}
use Rattle.dimacs.proofs.lists.listed.items_at_end.Goals as goal

pub returns-then-len-count-clause-ends : goal.returns-then-len-count-clause-ends
returns-then-len-count-clause-ends g c lines taken same =
    let all = rw c.in-Some.is at taken in
    (too_few g.I.NodeItem.word g.I.NodeItem.LETTER g.I.NodeItem.quantities g.K.NodeCount.nodes g.met.I.NodeItem.letter_is_no_mark g.met.I.NodeItem.letter_is_no_problem g.I.NodeItem.says lines _ c.in-Some.count _ all (omega arith), same)

pub returns-clause-ends : goal.returns-clause-ends
returns-clause-ends g c lines taken same =
    let all = rw c.in-Some.is at taken in
    (enough g.I.NodeItem.word g.I.NodeItem.LETTER g.I.NodeItem.quantities g.K.NodeCount.nodes g.met.I.NodeItem.letter_is_no_mark g.met.I.NodeItem.letter_is_no_problem g.I.NodeItem.says lines _ c.in-Some.count _ all (omega arith), sym taken.said)
