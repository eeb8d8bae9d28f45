use Rattle.session_lines.proofs.Tabled.{table_line}
use Rattle.session_lines.proofs.lines.listed_line.Goals as goal

pub returns : goal.returns
returns c front is = table_line front c.args.listing _ c.args.field _ c.ended-listing.ensures c.line.ensures is
