use Rattle.std.proofs.Common.{arith, not, eqb}
use Rattle.dimacs.proofs.Pieces.{len_from_position}
use Rattle.dimacs.proofs.numerals.numeral_end.zeros_in_front.Goals as goal

pub returns : goal.returns
returns c = grind (arith, len_from_position (λ b. not (eqb b 48)) c.args.digits.now)
