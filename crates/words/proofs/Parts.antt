-- The parts of a job that words give are fit.
use Rattle.std.proofs.Common.{◌≡◌, ℕ, List, [], Option, None, Some, inl, inr, ap, sym, subst, unwrap_or, arith}
use Rattle.std.specs.Option.{ForSome}
use Rattle.clap.specs.declared.parser.matches.Found.{Found}
use Rattle.words.specs.declared.jobs.Job.{Job}
use Rattle.words.specs.declared.jobs.Job.TheVariants.{Joint, Once, Route, Batch, Reach, Reached, Rehearse, Create, Apply, Ask, Serve, Copy}
use Rattle.words.specs.Pipes.{ArePipesFit}
use Rattle.words.specs.Words.{GivesNumber, GivesOr, GivesParts, HasFitParts, IsJournal, IsWidth, IsWorkers}

none_fit : (IsFit : ℕ → Type 0) → ForSome None IsFit
none_fit IsFit number e = absurd cc

some_fit : (IsFit : ℕ → Type 0) (number : ℕ) → IsFit number → ForSome (Some number) IsFit
some_fit IsFit number fits other e = let same : number ≡ other = ap (λ (o : Option ℕ). unwrap_or o number) e in subst IsFit same fits

module _ (found : Found) (name : List ℕ) (IsFit : ℕ → Type 0) where
  given_fit : (number : Option ℕ) → GivesNumber found name IsFit number → ForSome number IsFit
  given_fit None given = none_fit IsFit
  given_fit (Some number) given = some_fit IsFit number given.0

  other_fit : (other number : ℕ) → IsFit other → GivesOr found name IsFit other number → ForSome (Some number) IsFit
  other_fit other number fits (inl given) = some_fit IsFit number given.0
  other_fit other number fits (inr same) = some_fit IsFit number (subst IsFit (sym same.0) fits)

no_pipes : ArePipesFit []
no_pipes = (omega arith, λ later less. absurd (omega arith))

pub parts_fit : (found : Found) (job : Job) → GivesParts found job → HasFitParts job
parts_fit found (Joint delta) given = (given_fit found _ IsWidth delta given, none_fit IsJournal, none_fit IsWorkers, no_pipes)
parts_fit found (Once network source target delta) given = (given_fit found _ IsWidth delta given.3, none_fit IsJournal, none_fit IsWorkers, no_pipes)
parts_fit found (Route network source target delta) given = (given_fit found _ IsWidth delta given.3, none_fit IsJournal, none_fit IsWorkers, no_pipes)
parts_fit found (Batch network pairs delta) given = (given_fit found _ IsWidth delta given.2, none_fit IsJournal, none_fit IsWorkers, no_pipes)
parts_fit found (Reach network source within delta) given = (given_fit found _ IsWidth delta given.3, none_fit IsJournal, none_fit IsWorkers, no_pipes)
parts_fit found (Reached network target within delta) given = (given_fit found _ IsWidth delta given.3, none_fit IsJournal, none_fit IsWorkers, no_pipes)
parts_fit found (Rehearse network script journal_pages room delta) given = (
  given_fit found _ IsWidth delta given.4,
  other_fit found _ IsJournal 64 journal_pages (omega arith, omega arith) given.2,
  none_fit IsWorkers,
  no_pipes,
)
parts_fit found (Create store network landmarks journal_pages room) given = (
  none_fit IsWidth,
  other_fit found _ IsJournal 64 journal_pages (omega arith, omega arith) given.3,
  none_fit IsWorkers,
  no_pipes,
)
parts_fit found (Apply store commands delta) given = (given_fit found _ IsWidth delta given.2, none_fit IsJournal, none_fit IsWorkers, no_pipes)
parts_fit found (Ask store pairs routes delta) given = (given_fit found _ IsWidth delta given.3, none_fit IsJournal, none_fit IsWorkers, no_pipes)
parts_fit found (Serve store pipes copies delta workers patience) given = (
  given_fit found _ IsWidth delta given.4,
  none_fit IsJournal,
  other_fit found _ IsWorkers 4 workers (omega arith, omega arith) given.5,
  given.2,
)
parts_fit found (Copy store file room journal_pages) given = (none_fit IsWidth, given_fit found _ IsJournal journal_pages given.3, none_fit IsWorkers, no_pipes)
parts_fit found _ given = (none_fit IsWidth, none_fit IsJournal, none_fit IsWorkers, no_pipes)
