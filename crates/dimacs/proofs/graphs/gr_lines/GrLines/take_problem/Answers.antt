use Rattle.std.proofs.Common.{rules, Ok, ◌≡◌, ◌∷◌}
use Rattle.std.specs.Prelude.{is_some}
use lib.Chars.{codes}
use Rattle.dimacs.specs.Format.{gr}
use Rattle.std.proofs.lemmas.Result.{err_from_is_err_and}
use Rattle.dimacs.specs.Lines.{fields}
use Rattle.dimacs.specs.Reading.{problem_after}
use Rattle.dimacs.proofs.Items.{told_of_table}
use Rattle.dimacs.proofs.Problems.{takes_problem, problem_fault}
use Rattle.dimacs.proofs.Fitting.{first_problem, fits_none, none_so_far, some_is}
use Rattle.dimacs.proofs.graphs.gr_lines.GrLines.take_problem.Goals as goal

pub returns-in_err-problem-clause-takes : goal.returns-in_err-problem-clause-takes
returns-in_err-problem-clause-takes c earlier taken =
    let p = err_from_is_err_and c.from_residual.result c.from_residual.ensures.1 in
    let found = problem_fault earlier (fields c.args.words.now) c.in_err-problem.field-0.0 c.args.self.now taken (search rules) in
    rw (p.1, p.2) (told_of_table gr earlier (codes "p" ∷ fields c.args.words.now) c.in_err-problem.field-0.0 found)

pub returns-clause-takes : goal.returns-clause-takes
returns-clause-takes c earlier taken = takes_problem earlier (fields c.args.words.now) c.in_ok-problem.problem c.args.self.now _ taken (search rules) (search rules) (search rules)

pub invariant_of-self : goal.invariant_of-self
invariant_of-self c =
    let read : problem_after (is_some c.args.self.now.problem) (fields c.args.words.now) ≡ Ok c.in_ok-problem.problem = search rules in
    let first = first_problem _ (fields c.args.words.now) c.in_ok-problem.problem read in
    let empty = c.args.self.now.none (none_so_far c.args.self.now.problem first.0) in
    record { none = λ e. absurd cc; fits = λ p e. rw (← some_is _ p e) (fits_none _ (fields c.args.words.now) c.in_ok-problem.problem c.args.self.now.arcs.items read empty) }
