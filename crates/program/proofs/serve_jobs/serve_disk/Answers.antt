-- The store is that of the disk, as it was opened, and the closed desk is that of this store.
use Rattle.std.proofs.Common.{◌≡◌, ◌∙◌, ℕ, List, Result, Ok, Err, IfOk, sym, subst, inl}
use Rattle.std.specs.Prelude.{IfSome}
use Rattle.roadnet.specs.declared.refusals.Refusal.{Refusal}
use Rattle.roadnet.specs.Net.{Net}
use Rattle.store.specs.State.{CameTidy, HasVersion, IsTidy}
use Rattle.history.specs.Origins.{Origin}
use Rattle.dimacs.specs.Counts.{reader_of}
use Rattle.printing.specs.Counting.{writer_of}
use Rattle.session_lines.specs.declared.reading.LastLine.TheVariants.{Taken}
use Rattle.sessions.specs.Turns.{Serves, IsSessionKept}
use Rattle.server_files.specs.Copied.{copies_in}
use Rattle.program.proofs.serve_jobs.serve_disk.Goals as goal

stands_for_origin : {X : Type 0} (content : List ℕ) (answer : Result X Refusal) (origin_of : X → Origin) (origin : Origin)
    → HasVersion content origin.base origin.version → IfOk answer (λ x. origin_of x ≡ origin)
    → IfOk answer (λ x. HasVersion content (origin_of x).base (origin_of x).version)
stands_for_origin content (Ok x) origin_of origin stands same = subst (λ (o : Origin). HasVersion content o.base o.version) (sym same) stands
stands_for_origin content (Err e) origin_of origin stands same = tt

pub returns-clause-opened : goal.returns-clause-opened
returns-clause-opened g c honest =
    let content = g.D.Disk.content c.args.disk in
    let origin = c.new-history.result.origin in
    let base = c.new-history.ensures.base.0 ∙ c.network.ensures in
    let version = c.new-history.ensures.base.1 ∙ c.version.ensures.version in
    stands_for_origin content c.serve_store.result (λ ended. ended.closed.whole.origin) origin
    (subst (λ (v : ℕ). HasVersion content origin.base v) (sym version)
    (subst (λ (n : Net). HasVersion content n c.in-Ok.store.version) (sym base) (c.in-Ok.ensures.stands honest)))
    c.serve_store.ensures.origin

-- what holds of an answer by its origin holds by each that is the same
by_origin : {X : Type 0} (answer : Result X Refusal) (origin_of : X → Origin) (origin : Origin) (P : Origin → X → Type 0)
    → IfOk answer (P origin) → IfOk answer (λ x. origin_of x ≡ origin) → IfOk answer (λ x. P (origin_of x) x)
by_origin (Ok x) origin_of origin P holds same = subst (λ (o : Origin). P o x) (sym same) holds
by_origin (Err e) origin_of origin P holds same = tt

pub returns-clause-answered : goal.returns-clause-answered
returns-clause-answered g c =
    by_origin c.serve_store.result (λ ended. ended.closed.whole.origin) c.new-history.result.origin
    (λ origin ended.
    IfSome (g.I.Read.remaining (reader_of c.args.reader.now))
    (λ text.
    Serves (copies_in c.args.folder) Taken origin text (g.I.Read.remaining (reader_of c.serve_store.new.reader)) (g.W.Write.contents (writer_of c.args.writer.now)) (g.W.Write.contents (writer_of c.serve_store.new.writer))
    (IsSessionKept ended.closed.whole ended.closed.shown) ended.outcome))
    (rw c.new-copies.ensures at c.serve_store.ensures.answered)
    c.serve_store.ensures.origin

pub returns-clause-honest : goal.returns-clause-honest
returns-clause-honest g c came =
    let same = c.in-Ok.ensures.same came.0 in
    c.serve_store.ensures.honest (subst (CameTidy g.D.Disk.honest g.D.Disk.content) (sym c.in-Ok.ensures.given)
    (c.in-Ok.ensures.honest.0.1 came.0, subst IsTidy (sym same.same_content) came.1))

pub returns-clause-left : goal.returns-clause-left
returns-clause-left g c came =
    let same = c.in-Ok.ensures.same came.0 in
    c.serve_store.ensures.left (subst (CameTidy g.D.Disk.honest g.D.Disk.content) (sym c.in-Ok.ensures.given)
    (c.in-Ok.ensures.honest.0.1 came.0, subst IsTidy (sym same.same_content) came.1))

pub returns-in-Err-clause-refused : goal.returns-in-Err-clause-refused
returns-in-Err-clause-refused g c = inl (c.in-Err.ensures.causes, c.in-Err.ensures.judged)
