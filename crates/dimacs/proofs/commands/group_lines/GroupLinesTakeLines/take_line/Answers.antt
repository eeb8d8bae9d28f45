use Rattle.std.proofs.Common.{◌∙◌, [], Some, ap}
use Rattle.std.proofs.lemmas.Result.{err_from_is_err_and}
use Rattle.dimacs.specs.Lines.{fields}
use Rattle.dimacs.proofs.CommandRows.{never_read}
use Rattle.dimacs.proofs.GroupRows.{takes_fault, takes_nothing}
use Rattle.dimacs.proofs.commands.group_lines.GroupLinesTakeLines.take_line.Goals as goal

pub returns-in_default-clause-takes : goal.returns-in_default-clause-takes
returns-in_default-clause-takes c earlier has =
    takes_nothing earlier c.args.self.now has (fields c.args.line.now) c.in-Other.ensures.0 c.in-Other.ensures.1 (rw c.in_default.is at c.in_ok-command-in-Other.ensures)

pub returns-in-Some-clause-takes : goal.returns-in-Some-clause-takes
returns-in-Some-clause-takes c earlier has =
    let reads = rw c.in-Some.is at c.in_ok-command-in-Other.ensures in
    c.add.ensures.takes earlier (fields c.args.line.now) c.in-Other.ensures.0 c.in-Other.ensures.1 (reads.0 earlier) reads.1 has

pub returns-in_err-command-in-Other-clause-takes : goal.returns-in_err-command-in-Other-clause-takes
returns-in_err-command-in-Other-clause-takes c earlier has =
    let p = err_from_is_err_and c.from_residual.result c.from_residual.ensures.1 in
    rw (p.1, p.2) (takes_fault earlier c.args.self.now has (fields c.args.line.now) c.in-Other.ensures.0 c.in-Other.ensures.1 _ c.args.self.now c.in_err-command-in-Other.ensures)

pub returns-in_err-command-in-Other-clause-reads_nothing : goal.returns-in_err-command-in-Other-clause-reads_nothing
returns-in_err-command-in-Other-clause-reads_nothing c =
    let p = err_from_is_err_and c.from_residual.result c.from_residual.ensures.1 in
    rw (p.1, p.2) (λ e. never_read (fields c.args.line.now) (c.in_err-command-in-Other.ensures [] ∙ ap Some e))
