-- The journal pages of a job are those of its words.
use Rattle.std.proofs.Common.{ap}
use Rattle.words.specs.Words.{journal_pages_of}
use Rattle.file_jobs.proofs.running.run_making.Goals as goal

pub create-requires : goal.create-requires
create-requires g c = c.requires.journal c.in-Create.journal_pages (ap journal_pages_of c.in-Create.is)
