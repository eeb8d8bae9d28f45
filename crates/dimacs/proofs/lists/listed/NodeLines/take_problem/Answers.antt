use Rattle.std.proofs.Common.{◌∷◌, sym}
use Rattle.std.proofs.lemmas.Result.{err_from_is_err_and}
use lib.Chars.{codes}
use Rattle.dimacs.specs.Lines.{fields}
use Rattle.dimacs.specs.Listed.{listed}
use Rattle.dimacs.proofs.Items.{told_of_table}
use Rattle.dimacs.proofs.NodeRows.{takes_problem, problem_fault}
use Rattle.dimacs.proofs.lists.listed.NodeLines.take_problem.Goals as goal

pub returns-clause-takes : goal.returns-clause-takes
returns-clause-takes g c earlier taken =
    takes_problem g.I.NodeItem.word g.I.NodeItem.LETTER g.I.NodeItem.quantities g.K.NodeCount.nodes g.met.I.NodeItem.letter_is_no_mark g.met.I.NodeItem.letter_is_no_problem
    g.I.NodeItem.says earlier _ (fields c.args.words.now) _ c.in_ok-count.field-0 _ taken (rw (← c.is_some.ensures) (sym c.in_ok-count.ensures.value))

pub returns-in_err-count-clause-takes : goal.returns-in_err-count-clause-takes
returns-in_err-count-clause-takes g c earlier taken =
    let p = err_from_is_err_and c.from_residual.result c.from_residual.ensures.1 in
    rw (p.1, p.2)
    (told_of_table (listed g.I.NodeItem.word g.I.NodeItem.LETTER g.I.NodeItem.quantities g.K.NodeCount.nodes) earlier (codes "p" ∷ fields c.args.words.now) c.in_err-count.field-0.0
    (problem_fault g.I.NodeItem.word g.I.NodeItem.LETTER g.I.NodeItem.quantities g.K.NodeCount.nodes g.met.I.NodeItem.letter_is_no_mark g.met.I.NodeItem.letter_is_no_problem
    g.I.NodeItem.says earlier _ (fields c.args.words.now) _ _ _ taken (rw (← c.is_some.ensures) (sym c.in_err-count.ensures.value))))
