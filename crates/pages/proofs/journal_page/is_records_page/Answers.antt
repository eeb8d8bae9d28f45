use Rattle.std.proofs.Common.{rules}
use Rattle.pages.proofs.journal_page.is_records_page.Goals as goal

pub returns : goal.returns
returns c = search rules
