use Rattle.dimacs.proofs.BeyondTexts.{gr_overflows}
use Rattle.dimacs.proofs.graphs.gr_lines.GrLinesTakeLines.overflow_decides.Goals as goal

pub returns : goal.returns
returns c earlier before field after e other = gr_overflows earlier before field after e other
