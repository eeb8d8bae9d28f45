use Rattle.std.proofs.Common.{◌≡◌, ℕ, List, refl, sym, ◌∙◌, ap, subst}
use Rattle.std.proofs.lemmas.Result.{err_from_is_err_and}
use Rattle.store.specs.Committing.{HasTidyStanding}
use Rattle.store.specs.State.{CameTidy, Told}
use Rattle.keeper.proofs.Opened.{IsOpened, is_opened}
use Rattle.storetexts.proofs.Beginning.{none_come}
use Rattle.storetexts.proofs.Fitting.{fits}
use Rattle.storetexts.proofs.applying.ledger_on.Goals as goal

pub returns-in-Ok-clause-begins : goal.returns-in-Ok-clause-begins
returns-in-Ok-clause-begins g c honest pages slots net version stands =
    let tells = c.in_ok-store.ensures.told honest in
    let o : IsOpened pages slots (g.D.Disk.content c.args.disk) net version tells.standing = is_opened pages slots (g.D.Disk.content c.args.disk) net version tells.standing stands tells.is in
    let network : c.in_ok-store.store.network ≡ net = sym (ap (λ (t : Told). t.network) tells.told_is) ∙ o.network_is in
    let at : c.in_ok-store.store.version ≡ version = sym (ap (λ (t : Told). t.version) tells.told_is) ∙ o.version_is in
    none_come net c.in_ok-store.store.network version c.in_ok-store.store.version c.in_ok-store.store.unchecked _ c.in-Ok.ledger.machine c.in-Ok.ensures.begins network at

pub returns-in-Ok-clause-came : goal.returns-in-Ok-clause-came
returns-in-Ok-clause-came g c honest pages slots net version stands =
    let tells = c.in_ok-store.ensures.told honest in
    let o : IsOpened pages slots (g.D.Disk.content c.args.disk) net version tells.standing = is_opened pages slots (g.D.Disk.content c.args.disk) net version tells.standing stands tells.is in
    let there : CameTidy g.D.Disk.honest g.D.Disk.content c.in_ok-store.store.disk = (c.in_ok-store.ensures.honest.0.1 honest, (tells.standing, subst (λ (d : List ℕ). HasTidyStanding d tells.standing) (sym (c.in_ok-store.ensures.same honest).same_content) o.stands)) in
    subst (λ (d : g.row.D.Denot). CameTidy g.D.Disk.honest g.D.Disk.content d) (sym (c.in-Ok.ensures.given ∙ c.in_ok-store.ensures.given)) there

pub returns-in-Ok-clause-opened : goal.returns-in-Ok-clause-opened
returns-in-Ok-clause-opened g c =
    let store = c.in_ok-store.store in
    record {
      net = store.network;
      version = store.version;
      stands = c.in_ok-store.ensures.stands;
      holds = none_come store.network store.network store.version store.version store.unchecked _ c.in-Ok.ledger.machine c.in-Ok.ensures.begins refl refl;
    }

pub returns-in_err-store-clause-refused : goal.returns-in_err-store-clause-refused
returns-in_err-store-clause-refused g c =
    let p = err_from_is_err_and c.from_residual.result c.from_residual.ensures.1 in
    rw (p.1, p.2) (c.in_err-store.ensures.causes, c.in_err-store.ensures.judged)

pub returns-in-Ok-clause-fits : goal.returns-in-Ok-clause-fits
returns-in-Ok-clause-fits g c honest =
    let told = c.in_ok-store.ensures.told honest in
    fits (g.D.Disk.content c.args.disk) told.standing told.is

pub returns-in-Err-clause-order : goal.returns-in-Err-clause-order
returns-in-Err-clause-order g c honest memory =
    let told = c.in_ok-store.ensures.told honest in
    fits (g.D.Disk.content c.args.disk) told.standing told.is

pub returns-in_err-store-clause-order : goal.returns-in_err-store-clause-order
returns-in_err-store-clause-order g c =
    let p = err_from_is_err_and c.from_residual.result c.from_residual.ensures.1 in
    rw (p.1, p.2) c.in_err-store.ensures.order
