use Rattle.std.proofs.Common.{ℕ, List, sym, ◌∙◌, ap, subst}
use Rattle.std.proofs.lemmas.Result.{err_from_is_err_and}
use Rattle.store.specs.Committing.{HasTidyStanding}
use Rattle.store.specs.State.{CameTidy}
use Rattle.lives.proofs.Stopped.{begins_after, stands_after, stands_as_told}
use Rattle.lives.proofs.rehearsing.reopen.Goals as goal

pub returns-in-Ok-clause-begins : goal.returns-in-Ok-clause-begins
returns-in-Ok-clause-begins g c m s honest held =
    let stands = c.in_ok-store.ensures.told honest in
    let store = c.in_ok-store.store in
    let content = g.D.Disk.content c.args.disk in
    let begun = c.in-Ok.life.keeper.machine in
    let tidy = stands_after m content stands.standing s held stands.is in
    let there : CameTidy g.D.Disk.honest g.D.Disk.content store.disk = (c.in_ok-store.ensures.honest.0.1 honest, (stands.standing, subst (λ (d : List ℕ). HasTidyStanding d stands.standing) (sym (c.in_ok-store.ensures.same honest).same_content) tidy)) in
    record {
      begins = begins_after m content stands.standing s held stands.is begun _ stands.told_is c.in-Ok.ensures.begins.machine;
      came = subst (λ (d : g.row.D.Denot). CameTidy g.D.Disk.honest g.D.Disk.content d) (sym (c.in-Ok.ensures.begins.given ∙ c.in_ok-store.ensures.given)) there;
      stands = stands_as_told m content stands.standing s held stands.is begun _ stands.told_is c.in-Ok.ensures.begins.machine;
    }

pub returns-in-Ok-clause-content : goal.returns-in-Ok-clause-content
returns-in-Ok-clause-content g c honest = ap g.D.Disk.content c.in-Ok.ensures.begins.disk ∙ (c.in_ok-store.ensures.same honest).same_content

pub returns-in_err-store-clause-among : goal.returns-in_err-store-clause-among
returns-in_err-store-clause-among g c honest =
    let p = err_from_is_err_and c.from_residual.result c.from_residual.ensures.1 in
    rw (p.1, p.2) (c.in_err-store.ensures.handed_back honest).among
