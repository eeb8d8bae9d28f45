use Rattle.std.proofs.lemmas.Result.{err_from_is_err_and}
use Rattle.dimacs.specs.Lines.{fields}
use Rattle.scripts.proofs.ScriptLines.{one_says, one_fault}
use Rattle.scripts.proofs.script_texts.read_one.Goals as goal

pub returns : goal.returns
returns c = one_says c.args.word (fields c.args.rest.now) c.in_ok-number.field-0 _ c.in_ok-number.ensures c.one_event.ensures

pub returns-in_err-number : goal.returns-in_err-number
returns-in_err-number c =
    let p = err_from_is_err_and c.from_residual.result c.from_residual.ensures.1 in
    rw (p.1, p.2) (one_fault c.args.word (fields c.args.rest.now) _ c.in_err-number.ensures)
