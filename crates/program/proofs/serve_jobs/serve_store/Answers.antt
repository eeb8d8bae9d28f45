-- The desk's name is picked so that what closing it says has the fact of the store as its premise.
use Rattle.std.proofs.Common.{rules, ◌≡◌, true, ℕ, List, Option, None, Some}
use Rattle.std.specs.Prelude.{Result, Ok, Err, IfSome}
use Rattle.history.specs.Origins.{Origin}
use Rattle.roadnet.specs.declared.refusals.Refusal.TheVariants.{Read}
use Rattle.printing.specs.declared.failed.Failed.{Failed}
use Rattle.printing.specs.declared.failed.Failed.TheVariants.{Code}
use Rattle.session_lines.specs.declared.reading.LastLine.{LastLine}
use Rattle.session_lines.specs.declared.reading.LastLine.TheVariants.{Taken}
use Rattle.session_lines.specs.Copying.{Copying}
use Rattle.sessions.specs.Turns.{Serves, SessionStanding}
use Rattle.program.proofs.serve_jobs.serve_store.Goals as goal

-- what holds of a session as far as it came, so does what follows from it
served : {X : Type 0} (copying : Copying) (last_line : LastLine) (origin : Origin) (text : List ℕ) (left old new : Option (List ℕ)) (P Q : SessionStanding → Type 0) (result : Result X Failed)
    → ((last : SessionStanding) → P last → Q last) → Serves copying last_line origin text left old new P result → Serves copying last_line origin text left old new Q result
served copying last_line origin text left old new P Q (Ok x) also s = (s.0, s.1, also s.0 s.2, s.3)
served copying last_line origin text left old new P Q (Err (Code Read)) also s = (s.0, s.1, also s.0 s.2, s.3)
served copying last_line origin text left old new P Q (Err other) also s = tt

served_of : {X : Type 0} (copying : Copying) (last_line : LastLine) (origin : Origin) (known left old new : Option (List ℕ)) (P Q : SessionStanding → Type 0) (result : Result X Failed)
    → ((last : SessionStanding) → P last → Q last) → IfSome known (λ text. Serves copying last_line origin text left old new P result) → IfSome known (λ text. Serves copying last_line origin text left old new Q result)
served_of copying last_line origin None left old new P Q result also s = tt
served_of copying last_line origin (Some text) left old new P Q result also s = served copying last_line origin text left old new P Q result also s

pub returns-clause-answered : goal.returns-clause-answered
returns-clause-answered g c =
    let kept : c.is_kept.result ≡ true = search rules in
    let same : c.copies.result.now ≡ c.args.copies = search rules in
    served_of (g.C.Copies.copying c.args.copies) Taken g.N.Naming.origin _ _ _ _ _ _ _ (c.is_kept.ensures.kept kept) (rw same at c.serve-outcome.ensures.answered)

pub returns-clause-honest : goal.returns-clause-honest
returns-clause-honest g c came = c.in_ok-closed.ensures.honest (c.requires.came_tidy.1 came)

pub returns-clause-left : goal.returns-clause-left
returns-clause-left g c came = c.in_ok-closed.ensures.left (c.requires.came_tidy.1 came)
