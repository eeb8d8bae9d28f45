use Rattle.session_lines.proofs.Numbered.{behind_minus, behind_number}
use Rattle.session_lines.proofs.fields.Field.with.Goals as goal

pub returns-in-Minus : goal.returns-in-Minus
returns-in-Minus c field is = behind_minus field c.args.byte _ (rw c.in-Minus.is at is) c.with_digit-in-Minus.ensures

pub returns-in-Number : goal.returns-in-Number
returns-in-Number c field is = behind_number field c.in-Number.number c.args.byte _ (rw c.in-Number.is at is) c.with_digit-in-Number.ensures
