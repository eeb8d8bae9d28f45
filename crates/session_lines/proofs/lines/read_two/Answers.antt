use Rattle.std.proofs.Common.{rules, ◌∷◌}
use Rattle.session_lines.specs.declared.words.SessionWord.TheVariants.{WithTwo}
use Rattle.session_lines.specs.Spelled.{session_spelling}
use Rattle.session_lines.proofs.Grouped.{two_range}
use Rattle.session_lines.proofs.Worded.{two_reads, two_fault}
use Rattle.session_lines.proofs.lines.read_two.Goals as goal
use Rattle.session_lines.proofs.lines.read_two.Goals.{then-is_refused-via-then-is_refused, then-is_refused-via-else-is_refused+then-is_refused-2}

pub returns-in_default : goal.returns-in_default
returns-in_default c row are = c.bad_line.ensures (session_spelling (WithTwo c.args.word) ∷ row) (two_fault c.args.word row c.args.numbers are c.in_default.ensures)

pub returns-then-is_refused : goal.returns-then-is_refused
returns-then-is_refused c row are =
    elim c.then-is_refused.branch [
      | then-is_refused-via-then-is_refused w ↦ rw c.out_of_range.ensures (two_range c.args.word row c.in-Some.first c.in-Some.second (rw c.in-Some.ensures at are) (search rules))
      | then-is_refused-via-else-is_refused+then-is_refused-2 w ↦ rw c.out_of_range.ensures (two_range c.args.word row c.in-Some.first c.in-Some.second (rw c.in-Some.ensures at are) (search rules))
    ]

pub returns : goal.returns
returns c row are = rw c.two_line.ensures (two_reads c.args.word row c.in-Some.first c.in-Some.second (rw c.in-Some.ensures at are) (search rules))
