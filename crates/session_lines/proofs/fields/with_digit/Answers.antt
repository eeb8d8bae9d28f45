use Rattle.std.proofs.Common.{rules}
use Rattle.session_lines.proofs.Numbered.{number_of_digits, other_byte}
use Rattle.session_lines.proofs.fields.with_digit.Goals as goal

pub returns-then-not-is_ascii_digit : goal.returns-then-not-is_ascii_digit
returns-then-not-is_ascii_digit c digits has first = other_byte c.args.has_minus digits c.args.byte c.args.size (λ low high. search rules) has first

pub returns : goal.returns
returns c digits has first = number_of_digits c.args.has_minus digits c.args.byte c.args.size _ (search rules) (search rules) has (search rules)
