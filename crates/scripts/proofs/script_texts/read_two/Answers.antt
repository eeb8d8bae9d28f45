use Rattle.std.proofs.lemmas.Result.{err_from_is_err_and}
use Rattle.dimacs.specs.Lines.{fields}
use Rattle.scripts.proofs.ScriptLines.{two_says, two_fault}
use Rattle.scripts.proofs.script_texts.read_two.Goals as goal

pub returns : goal.returns
returns c = two_says c.args.word (fields c.args.rest.now) _ _ c.in_ok-first.ensures c.two_event.ensures

pub returns-in_err-first : goal.returns-in_err-first
returns-in_err-first c =
    let p = err_from_is_err_and c.from_residual.result c.from_residual.ensures.1 in
    rw (p.1, p.2) (two_fault c.args.word (fields c.args.rest.now) _ c.in_err-first.ensures)
