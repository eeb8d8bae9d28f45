use Rattle.std.proofs.lemmas.Result.{err_from_is_err_and}
use Rattle.dimacs.specs.Lines.{fields}
use Rattle.dimacs.proofs.CommandRows.{ignored_row, unknown_row, set_says, set_fault, lay_says, lay_fault, one_says, one_fault}
use Rattle.dimacs.proofs.commands.group_lines.read_command.Goals as goal

pub returns-in-Ignored : goal.returns-in-Ignored
returns-in-Ignored c = ignored_row (fields c.args.line.now) c.in-Ignored.ensures

pub returns-in_ok-arc-in-Set : goal.returns-in_ok-arc-in-Set
returns-in_ok-arc-in-Set c = set_says (fields c.args.line.now) _ _ _ c.in-Set.ensures c.in_ok-arc-in-Set.ensures

pub returns-in_err-arc-in-Set : goal.returns-in_err-arc-in-Set
returns-in_err-arc-in-Set c =
    let p = err_from_is_err_and c.from_residual.result c.from_residual.ensures.1 in
    rw (p.1, p.2) (set_fault (fields c.args.line.now) _ _ c.in-Set.ensures c.in_err-arc-in-Set.ensures)

pub returns-in_ok-number-in-One : goal.returns-in_ok-number-in-One
returns-in_ok-number-in-One c = rw c.command.ensures (one_says c.in-One.word (fields c.args.line.now) _ _ c.in-One.ensures c.in_ok-number-in-One.ensures)

pub returns-in_err-number-in-One : goal.returns-in_err-number-in-One
returns-in_err-number-in-One c =
    let p = err_from_is_err_and c.from_residual-in_err-number-in-One.result c.from_residual-in_err-number-in-One.ensures.1 in
    rw (p.1, p.2) (one_fault c.in-One.word (fields c.args.line.now) _ _ c.in-One.ensures c.in_err-number-in-One.ensures)

pub returns-in-Unknown : goal.returns-in-Unknown
returns-in-Unknown c = unknown_row (fields c.args.line.now) c.in-Unknown.ensures.0 c.in-Unknown.ensures.1

pub returns-in_ok-tail-in-Lay : goal.returns-in_ok-tail-in-Lay
returns-in_ok-tail-in-Lay c = lay_says (fields c.args.line.now) _ _ _ _ c.in-Lay.ensures c.in_ok-tail-in-Lay.ensures

pub returns-in_err-tail-in-Lay : goal.returns-in_err-tail-in-Lay
returns-in_err-tail-in-Lay c =
    let p = err_from_is_err_and c.from_residual-in_err-tail-in-Lay.result c.from_residual-in_err-tail-in-Lay.ensures.1 in
    rw (p.1, p.2) (lay_fault (fields c.args.line.now) _ _ c.in-Lay.ensures c.in_err-tail-in-Lay.ensures)
