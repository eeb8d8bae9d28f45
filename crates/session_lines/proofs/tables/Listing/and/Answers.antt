use Rattle.session_lines.proofs.Tabled.{no_number_row, still_faulty, still_unkept}
use Rattle.session_lines.proofs.tables.Listing.and.Goals as goal

pub returns-in-Some : goal.returns-in-Some
returns-in-Some c row field are is = c.with_number.ensures row field (rw c.in-Numbers.is at are) (rw c.in-Some.is at is)

pub returns-in-None : goal.returns-in-None
returns-in-None c row field are is = λ more. no_number_row row field more (rw c.in-None.is at is)

pub returns-in-Faulty : goal.returns-in-Faulty
returns-in-Faulty c row field are is = still_faulty row field (rw c.in-Faulty.is at are)

pub returns-in-Unkept : goal.returns-in-Unkept
returns-in-Unkept c row field are is = still_unkept row field (rw c.in-Unkept.is at are)
