use Rattle.std.proofs.Common.{◌∙◌, ◌≤◌, get_or, length, arith, rules, ◌<◌}
use Rattle.std.proofs.lemmas.Bool.{and_from}
use Rattle.std.proofs.lemmas.List.Folds.{list_all_more}
use Rattle.dimacs.specs.Digits.{is_decimal}
use Rattle.dimacs.proofs.DigitLemmas.{is_decimal_from, size_more}
use Rattle.dimacs.proofs.numerals.numeral.size_of.Goals as goal

pub loop-digit-preserved : goal.loop-digit-preserved
loop-digit-preserved c =
    let i = c.loop-digit.digit-index in
    let byte = get_or c.args.digits.now i 0 in
    let lt : i < length c.args.digits.now = omega arith in
    let low : 48 ≤ byte = search rules in
    let high : byte ≤ 57 = search rules in
    record {
      digits = list_all_more is_decimal c.args.digits.now i 0 lt ∙ and_from _ _ c.loop-digit.invariant.digits (is_decimal_from byte low high);
      size = size_more c.args.digits.now i _ _ lt low high c.loop-digit.invariant.size (search rules);
    }
