use Rattle.storefile.proofs.JournalWrite.{closed_page, open_page}
use Rattle.storefile.proofs.laws.journal_page_that_is_written.Goals as goal

pub returns-clause-closed : goal.returns-clause-closed
returns-clause-closed c = closed_page

pub returns-clause-opened : goal.returns-clause-opened
returns-clause-opened c = open_page
