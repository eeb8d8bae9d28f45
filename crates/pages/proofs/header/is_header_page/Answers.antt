use Rattle.std.proofs.Common.{rules}
use Rattle.pages.proofs.header.is_header_page.Goals as goal

pub returns : goal.returns
returns c = search rules
