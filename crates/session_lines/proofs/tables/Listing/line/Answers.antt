use Rattle.std.proofs.Common.{◌∷◌, refl}
use lib.Chars.{codes}
use Rattle.session_lines.proofs.Tabled.{faulty_line}
use Rattle.session_lines.proofs.tables.Listing.line.Goals as goal

pub returns-in-Numbers : goal.returns-in-Numbers
returns-in-Numbers c row are = c.line_of.ensures row (rw c.in-Numbers.is at are)

pub returns-in-Faulty : goal.returns-in-Faulty
returns-in-Faulty c row are = c.bad_line.ensures (codes "table" ∷ row) (faulty_line row (rw c.in-Faulty.is at are))

pub returns-in-Unkept : goal.returns-in-Unkept
returns-in-Unkept c row are = (refl, rw c.in-Unkept.is at are)
