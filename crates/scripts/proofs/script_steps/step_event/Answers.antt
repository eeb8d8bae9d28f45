use Rattle.std.proofs.lemmas.Result.{err_from_is_err_and}
use Rattle.dimacs.specs.Lines.{fields}
use Rattle.scripts.proofs.ScriptSteps.{step_fields_fault, step_says, step_fault}
use Rattle.scripts.proofs.script_steps.step_event.Goals as goal

pub returns-in_default : goal.returns-in_default
returns-in_default c = step_fields_fault (fields c.args.rest.now) c.in_default.ensures

pub returns : goal.returns
returns c = step_says (fields c.args.rest.now) c.in-Some.number c.in_ok-pages.pages c.in-Some.ensures c.in_ok-pages.ensures.0 c.in_ok-pages.ensures.1

pub returns-in_err-pages : goal.returns-in_err-pages
returns-in_err-pages c =
    let p = err_from_is_err_and c.from_residual.result c.from_residual.ensures.1 in
    rw (p.1, p.2) (step_fault (fields c.args.rest.now) c.in-Some.number _ c.in-Some.ensures c.in_err-pages.ensures.0 c.in_err-pages.ensures.1)
