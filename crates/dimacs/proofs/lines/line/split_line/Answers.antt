use Rattle.std.proofs.Common.{◌∙◌, sym, rules}
use Rattle.dimacs.proofs.Pieces.{first_line, last_line}
use Rattle.dimacs.proofs.lines.line.split_line.Goals as goal

pub returns-in-Some-clause-line : goal.returns-in-Some-clause-line
returns-in-Some-clause-line c =
    let first = first_line c.args.text.now c.in-Some.end (sym c.line_end.ensures ∙ c.in-Some.is) in
    let line = c.without_carriage_return.ensures in
    let front = c.split_at.ensures.front in
    let back = c.split_at-in-Some.ensures.back in
    rw (line, front, back) first

pub returns-in-None-clause-line : goal.returns-in-None-clause-line
returns-in-None-clause-line c =
    let last = last_line c.args.text.now (sym c.line_end.ensures ∙ c.in-None.is) (search rules) in
    let line = c.without_carriage_return-in-None.ensures in
    rw line last
