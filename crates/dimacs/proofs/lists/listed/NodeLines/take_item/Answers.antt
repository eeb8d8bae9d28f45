use Rattle.std.proofs.Common.{◌∷◌, [], arith}
use Rattle.std.proofs.lemmas.Result.{err_from_is_err_and}
use Rattle.dimacs.specs.Lines.{fields}
use Rattle.dimacs.specs.Listed.{listed}
use Rattle.dimacs.proofs.Items.{told_of_table}
use Rattle.dimacs.proofs.NodeRows.{takes_item, item_stands, item_beyond, item_fault}
use Rattle.dimacs.proofs.lists.listed.NodeLines.take_item.Goals as goal

pub returns-then-count-len-clause-takes : goal.returns-then-count-len-clause-takes
returns-then-count-len-clause-takes g c earlier taken =
    item_beyond g.I.NodeItem.word g.I.NodeItem.LETTER g.I.NodeItem.quantities g.K.NodeCount.nodes g.met.I.NodeItem.letter_is_no_mark g.met.I.NodeItem.letter_is_no_problem
    g.I.NodeItem.says earlier _ (fields c.args.numbers.now) c.in_ok-item.item c.in-Some-count.count _ _ taken c.in-Some-count.is (rw (rw c.in_ok-item.is at c.branch-item.ensures) at c.in-Some.ensures.item) (omega arith)

pub returns-in-Ok-clause-takes : goal.returns-in-Ok-clause-takes
returns-in-Ok-clause-takes g c earlier taken =
    takes_item g.I.NodeItem.word g.I.NodeItem.LETTER g.I.NodeItem.quantities g.K.NodeCount.nodes g.met.I.NodeItem.letter_is_no_mark g.met.I.NodeItem.letter_is_no_problem
    g.I.NodeItem.says earlier _ (fields c.args.numbers.now) c.in_ok-item.item c.in-Some-count.count _ _ taken c.in-Some-count.is (rw (rw c.in_ok-item.is at c.branch-item.ensures) at c.in-Some.ensures.item)
    _ (omega arith) c.in-Ok.ensures.items

pub returns-in-Err-clause-takes : goal.returns-in-Err-clause-takes
returns-in-Err-clause-takes g c earlier taken =
    item_stands g.I.NodeItem.word g.I.NodeItem.LETTER g.I.NodeItem.quantities g.K.NodeCount.nodes g.met.I.NodeItem.letter_is_no_mark g.met.I.NodeItem.letter_is_no_problem
    g.I.NodeItem.says earlier _ (fields c.args.numbers.now) c.in_ok-item.item c.in-Some-count.count _ _ taken c.in-Some-count.is (rw (rw c.in_ok-item.is at c.branch-item.ensures) at c.in-Some.ensures.item)
    (omega arith)

pub returns-in_err-item-clause-takes : goal.returns-in_err-item-clause-takes
returns-in_err-item-clause-takes g c earlier taken =
    let p = err_from_is_err_and c.from_residual.result c.from_residual.ensures.1 in
    rw (p.1, p.2)
    (told_of_table (listed g.I.NodeItem.word g.I.NodeItem.LETTER g.I.NodeItem.quantities g.K.NodeCount.nodes) earlier ((g.I.NodeItem.LETTER ∷ []) ∷ fields c.args.numbers.now) c.in_err-item.field-0.0
    (item_fault g.I.NodeItem.word g.I.NodeItem.LETTER g.I.NodeItem.quantities g.K.NodeCount.nodes g.met.I.NodeItem.letter_is_no_mark g.met.I.NodeItem.letter_is_no_problem
    g.I.NodeItem.says earlier _ (fields c.args.numbers.now) c.in-Some-count.count _ _ _ taken c.in-Some-count.is (rw (rw c.in_err-item.is at c.branch-item.ensures) at c.in-Some.ensures.item)))
