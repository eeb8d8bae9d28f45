use Rattle.std.proofs.Common.{rules}
use Rattle.session_lines.proofs.Naming.{name_ended}
use Rattle.session_lines.proofs.lines.with_name.Goals as goal

pub returns-then-is_blank : goal.returns-then-is_blank
returns-then-is_blank c front is = name_ended front c.args.byte c.args.name (search rules) is
