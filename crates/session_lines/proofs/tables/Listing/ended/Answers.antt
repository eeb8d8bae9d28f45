use Rattle.session_lines.proofs.Tabled.{minus_listed, no_field_listed, number_listed, other_listed}
use Rattle.session_lines.proofs.tables.Listing.ended.Goals as goal

pub returns-in-Unbegun : goal.returns-in-Unbegun
returns-in-Unbegun c row last listing is = no_field_listed row last c.args.self (rw c.in-Unbegun.is at is) listing

pub returns-in-Minus : goal.returns-in-Minus
returns-in-Minus c row last listing is = minus_listed row last c.args.self _ listing (rw c.in-Minus.is at is) c.and.ensures

pub returns-in-Number : goal.returns-in-Number
returns-in-Number c row last listing is = number_listed row last c.args.self _ listing c.in-Number.number (rw c.in-Number.is at is) c.and-in-Number.ensures

pub returns-in-Other : goal.returns-in-Other
returns-in-Other c row last listing is = other_listed row last c.args.self _ listing (rw c.in-Other.is at is) c.and-in-Other.ensures
