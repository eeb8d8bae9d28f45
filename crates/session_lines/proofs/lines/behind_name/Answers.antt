use Rattle.std.proofs.Common.{rules}
use Rattle.session_lines.proofs.Naming.{second_field, still_named}
use Rattle.session_lines.proofs.lines.behind_name.Goals as goal

pub returns-then-is_blank : goal.returns-then-is_blank
returns-then-is_blank c front is = still_named front c.args.byte c.args.name (search rules) is

pub returns : goal.returns
returns c front is = second_field front c.args.byte c.args.name (search rules) is
