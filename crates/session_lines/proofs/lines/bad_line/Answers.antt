use Rattle.session_lines.proofs.Grouped.{bad_within}
use Rattle.session_lines.proofs.lines.bad_line.Goals as goal

pub returns : goal.returns
returns c row is = (is, bad_within row is)
