use Rattle.dimacs.specs.Lines.{fields}
use Rattle.scripts.proofs.ScriptLines.{bare_says, bare_fault}
use Rattle.scripts.proofs.script_texts.read_bare.Goals as goal

pub returns-in-None : goal.returns-in-None
returns-in-None c = bare_says c.args.word (fields c.args.rest.now) _ c.in-None.ensures c.bare_event.ensures

pub returns-in-Some : goal.returns-in-Some
returns-in-Some c = bare_fault c.args.word (fields c.args.rest.now) _ _ c.in-Some.ensures
