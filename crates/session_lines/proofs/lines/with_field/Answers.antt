use Rattle.std.proofs.Common.{rules}
use Rattle.session_lines.proofs.Staged.{field_ended, field_goes_on}
use Rattle.session_lines.proofs.lines.with_field.Goals as goal

pub returns-then-is_blank : goal.returns-then-is_blank
returns-then-is_blank c front is = field_ended front c.args.byte c.args.word c.args.numbers _ c.args.field (search rules) c.ended.ensures is

pub returns : goal.returns
returns c front is = field_goes_on front c.args.byte c.args.word c.args.numbers c.args.field _ (search rules) c.with.ensures is
