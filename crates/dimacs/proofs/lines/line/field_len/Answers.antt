use Rattle.std.proofs.Common.{arith}
use Rattle.dimacs.specs.Lines.{is_blank}
use Rattle.dimacs.proofs.Pieces.{len_from_position}
use Rattle.dimacs.proofs.lines.line.field_len.Goals as goal

pub returns : goal.returns
returns c = grind (arith, len_from_position is_blank c.args.rest.now)
