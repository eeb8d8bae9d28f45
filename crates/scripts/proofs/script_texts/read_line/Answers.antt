use Rattle.dimacs.specs.Lines.{fields}
use Rattle.scripts.proofs.ScriptLines.{ignored_row, unknown_row}
use Rattle.scripts.proofs.script_texts.read_line.Goals as goal

pub returns-in-Ignored : goal.returns-in-Ignored
returns-in-Ignored c = ignored_row (fields c.args.line.now) c.in-Ignored.ensures

pub returns-in-Unknown : goal.returns-in-Unknown
returns-in-Unknown c = unknown_row (fields c.args.line.now) c.in-Unknown.ensures.0 c.in-Unknown.ensures.1 c.in-Unknown.ensures.2 c.in-Unknown.ensures.3
