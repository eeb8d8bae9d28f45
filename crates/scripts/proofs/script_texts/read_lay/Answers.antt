use Rattle.std.proofs.lemmas.Result.{err_from_is_err_and}
use Rattle.dimacs.specs.Lines.{fields}
use Rattle.scripts.proofs.ScriptLines.{lay_says, lay_fault}
use Rattle.scripts.proofs.script_texts.read_lay.Goals as goal

pub returns : goal.returns
returns c = lay_says (fields c.args.rest.now) _ _ c.in_ok-tail.ensures c.lay_event.ensures

pub returns-in_err-tail : goal.returns-in_err-tail
returns-in_err-tail c =
    let p = err_from_is_err_and c.from_residual.result c.from_residual.ensures.1 in
    rw (p.1, p.2) (lay_fault (fields c.args.rest.now) _ c.in_err-tail.ensures)
