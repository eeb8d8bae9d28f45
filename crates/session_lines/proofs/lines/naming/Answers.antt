use Rattle.std.proofs.Common.{◌∙◌, sym}
use Rattle.session_lines.proofs.Naming.{begins_name, begins_other}
use Rattle.session_lines.proofs.lines.naming.Goals as goal

pub returns-then-is_name_byte : goal.returns-then-is_name_byte
returns-then-is_name_byte c front is = begins_name front c.args.byte c.one.result c.requires c.one.ensures is

pub returns : goal.returns
returns c front is = begins_other front c.args.byte c.requires (sym c.is_name_byte.ensures ∙ c.if-is_name_byte.false) is
