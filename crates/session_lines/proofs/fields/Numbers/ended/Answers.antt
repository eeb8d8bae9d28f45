use Rattle.session_lines.proofs.Numbered.{minus_ended, number_ended, other_ended}
use Rattle.session_lines.proofs.fields.Numbers.ended.Goals as goal

pub returns-in-Minus : goal.returns-in-Minus
returns-in-Minus c row last numbers is = minus_ended row last c.args.self _ numbers (rw c.in-Minus.is at is) c.and.ensures

pub returns-in-Number : goal.returns-in-Number
returns-in-Number c row last numbers is = number_ended row last c.args.self _ numbers c.in-Number.number (rw c.in-Number.is at is) c.and-in-Number.ensures

pub returns-in-Other : goal.returns-in-Other
returns-in-Other c row last numbers is = other_ended row last c.args.self _ numbers (rw c.in-Other.is at is) c.and-in-Other.ensures
