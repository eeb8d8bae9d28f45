-- What a client that was served is told.
use Rattle.std.specs.Prelude.{ℕ, Bool, List, Option, Result, IfErr, IfSome}
use Rattle.dimacs.specs.Counts.{reader_of}
use Rattle.dimacs.specs.declared.lines.counted.Counted.{Counted}
use Rattle.history.specs.Origins.{Origin}
use Rattle.office.specs.declared.naming.Naming.{Ghosts}
use Rattle.printing.specs.declared.failed.Failed.{Failed}
use Rattle.printing.specs.declared.writer.CountedWriter.{CountedWriter}
use Rattle.printing.specs.Counting.{writer_of}
use Rattle.printing.specs.Failing.{CountsWrites}
use Rattle.session_lines.specs.declared.reading.LastLine.{LastLine}
use Rattle.session_lines.specs.declared.reading.LastLine.TheVariants.{Dropped}
use Rattle.sessions.specs.declared.clients.served.Finished.{Finished}
use Rattle.sessions.specs.declared.clients.serving.Terms.{Terms}
use Rattle.sessions.specs.declared.session.sessions.Session.{Session}
use Rattle.session_lines.specs.Copying.{Copying, copying_at}
use Rattle.sessions.specs.Told.{CountsRead, IsOfStream}
use Rattle.sessions.specs.Turns.{Serves, IsSessionAt}

-- On these terms the lines of a reader are answered in their order, as far as the session came that is handed out.
abbrev pub AreAnswered : {C I W N : Type 0} {n : Ghosts N} → (C → Copying) → Terms C → Origin → (I → Option (List ℕ)) → (W → Option (List ℕ)) → Counted I → Counted I → CountedWriter W → CountedWriter W → Result (Unit {0}) Failed × Session N n → Type 0
AreAnswered copying terms origin remaining contents reader read_on writer written_on served =
    IfSome (remaining (reader_of reader)) (λ text.
    Serves (copying terms.copies.now) terms.last_line origin text (remaining (reader_of read_on)) (contents (writer_of writer)) (contents (writer_of written_on))
    (IsSessionAt origin served.1.place served.1.receipts) served.0)

-- Its lines were answered in their order, as far as its session came; and the counts, from 0 on, tell whether the reader or the writer failed.
pub record IsClientAnswered {I W N : Type 0} {n : Ghosts N} (copying : Copying) (last_line : LastLine) (origin : Origin) (remaining : I → Option (List ℕ)) (contents : W → Option (List ℕ)) (reader read_on : I) (writer written_on : W) (served : Finished N n) : Type 0 where
  pub answered : IfSome (remaining reader) (λ text. Serves copying last_line origin text (remaining read_on) (contents writer) (contents written_on) (IsSessionAt origin served.session.place served.session.receipts) served.outcome)
  pub reads : CountsRead 0 served.failed_reads served.outcome
  pub writes : CountsWrites 0 served.failed_writes served.outcome
  pub causes : IfErr served.outcome IsOfStream

-- the same on these terms
abbrev pub IsServed : {C I W N : Type 0} {n : Ghosts N} → (C → Copying) → Terms C → Origin → (I → Option (List ℕ)) → (W → Option (List ℕ)) → I → I → W → W → Finished N n → Type 0
IsServed copying terms origin remaining contents reader read_on writer written_on served =
    IsClientAnswered (copying terms.copies.now) terms.last_line origin remaining contents reader read_on writer written_on served

-- the same at a door, whose sessions may ask alone: by pipes a client may be cut off in a line, which is not carried out
abbrev pub IsAnsweredAt : {I W N : Type 0} {n : Ghosts N} → Bool → Copying → Origin → (I → Option (List ℕ)) → (W → Option (List ℕ)) → I → I → W → W → Finished N n → Type 0
IsAnsweredAt asks_alone copying origin remaining contents reader read_on writer written_on served =
    IsClientAnswered (copying_at asks_alone copying) Dropped origin remaining contents reader read_on writer written_on served
