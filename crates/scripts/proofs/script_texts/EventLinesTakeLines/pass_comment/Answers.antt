use Rattle.scripts.proofs.ScriptGroups.{takes_remark}
use Rattle.scripts.proofs.script_texts.EventLinesTakeLines.pass_comment.Goals as goal

pub returns : goal.returns
returns c earlier row e taken = takes_remark earlier row c.args.self.now e taken
