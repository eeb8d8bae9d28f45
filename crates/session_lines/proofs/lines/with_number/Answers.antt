use Rattle.std.proofs.Common.{rules}
use Rattle.session_lines.proofs.Tabled.{number_ended, number_goes_on}
use Rattle.session_lines.proofs.lines.with_number.Goals as goal

pub returns-then-is_blank : goal.returns-then-is_blank
returns-then-is_blank c front is = number_ended front c.args.byte c.args.listing _ c.args.field (search rules) c.ended.ensures is

pub returns : goal.returns
returns c front is = number_goes_on front c.args.byte c.args.listing c.args.field _ (search rules) c.with.ensures is
