use Rattle.scripts.proofs.ScriptAlike.{script_code_same, events_taken_same}
use Rattle.scripts.proofs.script_texts.EventLinesTakeLines.same_is_taken.Goals as goal

pub returns-clause-judged : goal.returns-clause-judged
returns-clause-judged c = script_code_same

pub returns-clause-taken : goal.returns-clause-taken
returns-clause-taken c = events_taken_same
