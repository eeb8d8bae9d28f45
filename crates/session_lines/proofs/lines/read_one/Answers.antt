use Rattle.std.proofs.Common.{rules, ◌∷◌}
use Rattle.session_lines.specs.declared.words.SessionWord.TheVariants.{WithOne}
use Rattle.session_lines.specs.Spelled.{session_spelling}
use Rattle.session_lines.proofs.Grouped.{one_range}
use Rattle.session_lines.proofs.Worded.{one_reads, one_fault}
use Rattle.session_lines.proofs.lines.read_one.Goals as goal

pub returns-in_default : goal.returns-in_default
returns-in_default c row are = c.bad_line.ensures (session_spelling (WithOne c.args.word) ∷ row) (one_fault c.args.word row c.args.numbers are c.in_default.ensures)

pub returns-then-is_refused : goal.returns-then-is_refused
returns-then-is_refused c row are = rw c.out_of_range.ensures (one_range c.args.word row c.in-Some.number (rw c.in-Some.ensures at are) (search rules))

pub returns : goal.returns
returns c row are = rw c.one_line.ensures (one_reads c.args.word row c.in-Some.number (rw c.in-Some.ensures at are) (search rules))
