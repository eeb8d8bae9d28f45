use Rattle.std.proofs.Common.{rules, refl}
use Rattle.rows.specs.declared.queries.Query.TheVariants.{Dist, From}
use Rattle.sessions.proofs.Said.{puts_so}
use Rattle.sessions.proofs.Supposed.{reply_found}
use Rattle.sessions.proofs.session.supposing.query_supposed.Goals as goal

pub returns-in-Dist-clause-told : goal.returns-in-Dist-clause-told
returns-in-Dist-clause-told g c =
    rw c.in-Dist.is
    (puts_so g.W.Write.contents _ _ c.tell_found.result _ _
    (reply_found c.args.supposed.now (Dist c.in-Dist.source c.in-Dist.target) c.version-version.result c.dist-found.result c.version-version.ensures (search rules)) c.tell_found.ensures)

pub returns-in-From-clause-told : goal.returns-in-From-clause-told
returns-in-From-clause-told g c =
    rw c.in-From.is
    (puts_so g.W.Write.contents _ _ c.tell_found-in-From.result _ _
    (reply_found c.args.supposed.now (From c.in-From.landmark c.in-From.target) c.version-version.result c.from_landmark-found.result c.version-version.ensures (search rules)) c.tell_found-in-From.ensures)

pub returns-in-Lower-clause-told : goal.returns-in-Lower-clause-told
returns-in-Lower-clause-told g c = rw c.in-Lower.is (puts_so g.W.Write.contents _ _ c.tell_fault.result _ _ refl c.tell_fault.ensures)
