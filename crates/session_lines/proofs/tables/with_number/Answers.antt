use Rattle.std.proofs.Common.{rules}
use Rattle.session_lines.proofs.Tabled.{first_unkept, full_row, listed_more}
use Rattle.session_lines.proofs.tables.with_number.Goals as goal

pub returns-then-not-has_room : goal.returns-then-not-has_room
returns-then-not-has_room c row field are is = full_row row c.args.sizes.items c.args.refused are (search rules) field

pub returns-in-Ok : goal.returns-in-Ok
returns-in-Ok c row field are is = rw c.is_refused_with.ensures (listed_more row field c.args.sizes.items c.push.new.self.items c.args.refused c.args.number are is c.in-Ok.ensures.items)

pub returns-in-Err : goal.returns-in-Err
returns-in-Err c row field are is = first_unkept row field c.args.sizes.items c.args.refused c.args.number are (search rules) is
