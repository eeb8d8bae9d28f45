use Rattle.dimacs.specs.Lines.{is_line_feed}
use Rattle.dimacs.proofs.ByteSearch.{position_from_first}
use Rattle.dimacs.proofs.lines.line.line_end.Goals as goal

pub returns : goal.returns
returns c = position_from_first is_line_feed c.args.text.now _ c.memchr.ensures
