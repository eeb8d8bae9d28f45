use Rattle.std.proofs.Common.{sym}
use Rattle.dimacs.proofs.Fronts.{blanks_before, all_blanks}
use Rattle.dimacs.proofs.lines.line.without_blanks.Goals as goal

pub returns-in-Some-clause-blanks : goal.returns-in-Some-clause-blanks
returns-in-Some-clause-blanks c = rw c.split_at.ensures.back (blanks_before c.args.piece.now c.in-Some.start (sym c.in-Some.ensures))

pub returns-in-None-clause-blanks : goal.returns-in-None-clause-blanks
returns-in-None-clause-blanks c = all_blanks c.args.piece.now (sym c.in-None.ensures)
