use Rattle.session_lines.proofs.so_far.LineSoFar.line.Goals as goal

pub returns : goal.returns
returns c front is = rw is.plain (c.line.ensures is.judged is.stage)
