-- The journal pages of a job are those of its words.
use Rattle.std.proofs.Common.{ap}
use Rattle.words.specs.Words.{journal_pages_of}
use Rattle.file_jobs.proofs.running.run_on_texts.Goals as goal

pub rehearse-requires-clause-journal : goal.rehearse-requires-clause-journal
rehearse-requires-clause-journal g c = c.requires.journal c.in-Rehearse.journal_pages (ap journal_pages_of c.in-Rehearse.is)
