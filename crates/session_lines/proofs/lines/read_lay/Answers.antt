use Rattle.std.proofs.Common.{◌∷◌, ◌∙◌, sym}
use Rattle.session_lines.specs.declared.words.SessionWord.TheVariants.{Lay}
use Rattle.session_lines.specs.Spelled.{session_spelling}
use Rattle.session_lines.proofs.Grouped.{lay_range}
use Rattle.session_lines.proofs.Worded.{lay_reads, lay_fault}
use Rattle.session_lines.proofs.lines.read_lay.Goals as goal

pub returns-in_default : goal.returns-in_default
returns-in_default c row are = c.bad_line.ensures (session_spelling Lay ∷ row) (lay_fault row c.args.numbers are c.in_default.ensures)

pub returns-then-is_one_refused : goal.returns-then-is_one_refused
returns-then-is_one_refused c row are = lay_range row c.in-Some.tail c.in-Some.head c.in-Some.length (rw c.in-Some.ensures at are) (sym c.is_one_refused.ensures ∙ c.if-is_one_refused.true)

pub returns : goal.returns
returns c row are = lay_reads row c.in-Some.tail c.in-Some.head c.in-Some.length (rw c.in-Some.ensures at are) (sym c.is_one_refused.ensures ∙ c.if-is_one_refused.false)
