use Rattle.std.proofs.Common.{◌∙◌, [], Some, ap}
use Rattle.std.proofs.lemmas.Result.{err_from_is_err_and}
use Rattle.dimacs.specs.Lines.{fields}
use Rattle.dimacs.proofs.CommandRows.{never_read}
use Rattle.scripts.proofs.ScriptGroups.{no_command_line, takes_no_command}
use Rattle.scripts.proofs.script_texts.EventLines.take_within.Goals as goal

pub returns-in-None-clause-takes : goal.returns-in-None-clause-takes
returns-in-None-clause-takes c earlier has =
    takes_no_command earlier c.args.self.now has (fields c.args.line.now) c.requires.no_bound.0 c.requires.no_bound.1 c.requires.within (rw c.in-None.is at c.in_ok-read_command.ensures)

pub returns-in-Some-clause-takes : goal.returns-in-Some-clause-takes
returns-in-Some-clause-takes c earlier has =
    let reads = rw c.in-Some.is at c.in_ok-read_command.ensures in
    c.add.ensures.takes earlier (fields c.args.line.now) c.requires.no_bound.0 c.requires.no_bound.1 (reads.0 earlier) reads.1 has

pub returns-in_err-read_command-clause-takes : goal.returns-in_err-read_command-clause-takes
returns-in_err-read_command-clause-takes c earlier has =
    let p = err_from_is_err_and c.from_residual.result c.from_residual.ensures.1 in
    rw (p.1, p.2) (no_command_line earlier c.args.self.now has (fields c.args.line.now) c.requires.no_bound.0 c.requires.no_bound.1 c.requires.within _ c.in_err-read_command.ensures)

pub returns-in_err-read_command-clause-reads_nothing : goal.returns-in_err-read_command-clause-reads_nothing
returns-in_err-read_command-clause-reads_nothing c =
    let p = err_from_is_err_and c.from_residual.result c.from_residual.ensures.1 in
    rw (p.1, p.2) (λ e. never_read (fields c.args.line.now) (c.in_err-read_command.ensures [] ∙ ap Some e))
