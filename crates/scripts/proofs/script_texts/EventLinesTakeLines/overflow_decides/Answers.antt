use Rattle.scripts.proofs.ScriptBeyond.{script_overflows}
use Rattle.scripts.proofs.script_texts.EventLinesTakeLines.overflow_decides.Goals as goal

pub returns : goal.returns
returns c earlier before field after e other = script_overflows earlier before field after e other
