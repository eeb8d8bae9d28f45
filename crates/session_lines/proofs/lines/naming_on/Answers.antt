use Rattle.std.proofs.Common.{rules, ◌∙◌, sym}
use Rattle.session_lines.proofs.Naming.{full_name, more_name, name_too_long, other_byte}
use Rattle.session_lines.proofs.lines.naming_on.Goals as goal

pub returns-then-not-is_name_byte : goal.returns-then-not-is_name_byte
returns-then-not-is_name_byte c front is = other_byte front c.args.byte c.args.name c.requires (sym c.is_name_byte.ensures ∙ c.if-not-is_name_byte.true) is

pub returns-in-Some : goal.returns-in-Some
returns-in-Some c front is = more_name front c.args.byte c.args.name c.in-Some.name c.requires c.in-Some.ensures is

pub returns-in-None : goal.returns-in-None
returns-in-None c front is = name_too_long front c.args.byte c.args.name c.requires (full_name c.args.name c.in-None.ensures (search rules)) is
