use Rattle.std.proofs.Common.{refl}
use Rattle.dimacs.specs.Format.{gr}
use Rattle.dimacs.proofs.AlikeTexts.{text_code_same, gr_taken_same}
use Rattle.dimacs.proofs.graphs.gr_lines.GrLinesTakeLines.same_is_taken.Goals as goal

pub returns-clause-judged : goal.returns-clause-judged
returns-clause-judged c = text_code_same gr refl

pub returns-clause-taken : goal.returns-clause-taken
returns-clause-taken c = gr_taken_same
