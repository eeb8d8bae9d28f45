use Rattle.clap.specs.Words.{found_of}
use Rattle.words.proofs.Parts.{parts_fit}
use Rattle.words.proofs.words.job_in.Goals as goal

pub returns-clause-fit : goal.returns-clause-fit
returns-clause-fit c = parts_fit (found_of c.in-Some.inner.now) c.in_ok-job-in-Some.job c.in_ok-job-in-Some.ensures.1
