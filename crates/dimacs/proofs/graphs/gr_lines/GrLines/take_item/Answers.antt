use Rattle.std.proofs.Common.{rules, Ok, ◌≡◌, ◌∷◌, length}
use lib.Chars.{codes}
use Rattle.dimacs.specs.Format.{gr}
use Rattle.std.specs.Result.{is_ok}
use Rattle.std.proofs.lemmas.Result.{err_from_is_err_and}
use Rattle.dimacs.specs.Lines.{fields}
use Rattle.dimacs.specs.Reading.{three_numerals, item_after}
use Rattle.dimacs.proofs.Items.{takes_item, item_stands, item_fault, told_of_table}
use Rattle.dimacs.proofs.Fitting.{no_item_first, fits_pushed}
use Rattle.dimacs.proofs.graphs.gr_lines.GrLines.take_item.Goals as goal

pub returns-in_err-arc-clause-takes : goal.returns-in_err-arc-clause-takes
returns-in_err-arc-clause-takes c earlier taken =
    let p = err_from_is_err_and c.from_residual.result c.from_residual.ensures.1 in
    let found = item_fault earlier (fields c.args.numbers.now) c.in_err-arc.field-0.0 c.args.self.now taken (search rules) in
    rw (p.1, p.2) (told_of_table gr earlier (codes "a" ∷ fields c.args.numbers.now) c.in_err-arc.field-0.0 found)

pub returns-in-Ok-clause-takes : goal.returns-in-Ok-clause-takes
returns-in-Ok-clause-takes c earlier taken = takes_item earlier (fields c.args.numbers.now) c.in_ok-arc.arc c.args.self.now _ taken (search rules) (search rules) (search rules)

pub returns-in-Err-clause-takes : goal.returns-in-Err-clause-takes
returns-in-Err-clause-takes c earlier taken = item_stands earlier (fields c.args.numbers.now) c.in_ok-arc.arc c.args.self.now taken (search rules)

pub invariant_of-self : goal.invariant_of-self
invariant_of-self c =
    let read : item_after c.args.self.now.problem (length c.args.self.now.arcs.items) (three_numerals (fields c.args.numbers.now)) ≡ Ok c.in_ok-arc.arc = search rules in
    record {
      none = λ e. absurd (no_item_first c.args.self.now.problem _ (three_numerals (fields c.args.numbers.now)) c.in_ok-arc.arc read e);
      fits = fits_pushed c.args.self.now.problem c.args.self.now.arcs.items c.push.new.self.items (three_numerals (fields c.args.numbers.now)) c.in_ok-arc.arc (is_ok c.push.result) read c.push.ensures.items c.args.self.now.fits;
    }
