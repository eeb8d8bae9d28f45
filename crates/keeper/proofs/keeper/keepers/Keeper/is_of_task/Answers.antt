use Rattle.std.proofs.Common.{◌≡◌, ◌∙◌, ℕ, ◌++◌, Option, None, Some, true, ap, sym, subst}
use Rattle.std.specs.Prelude.{is_some}
use Rattle.std.specs.Bool.{Decides}
use Rattle.roadnet.specs.Net.{Net}
use Rattle.roadnet.specs.Step.{after}
use Rattle.roadnet.specs.Batches.{first_refusal_of_all}
use Rattle.machine.specs.Machine.{groups_to, network_at}
use Rattle.machine.proofs.Kept.{admitted_versions}
use Rattle.keeper.proofs.Caught.{network_between}
use Rattle.keeper.proofs.Leads.{led_admitted}
use Rattle.keeper.proofs.keeper.keepers.Keeper.is_of_task.Goals as goal

pub lead_to-requires : goal.lead_to-requires
lead_to-requires g c =
    let m = c.self.inside.ledger.machine in
    let shown = c.self.inside.shown in
    let groups = c.groups_between-groups.result.now in
    let net : c.network.result.now ≡ shown.network = (let a = c.network.ensures in let b = c.deref-3.ensures in let d = c.view-shown.ensures in cc) in
    let at : c.version.result ≡ shown.version = (let a = c.version.ensures in let b = c.deref-2.ensures in let d = c.view-shown.ensures in cc) in
    let way : groups_to m c.args.version ≡ groups_to m shown.version ++ groups = c.groups_between-groups.ensures.groups ∙ ap (λ (v : ℕ). groups_to m v ++ groups) at in
    let between : network_at m c.args.version ≡ after shown.network groups = network_between m shown.version c.args.version shown.network groups c.self.invariant.shown_is way in
    let there : is_some (after shown.network groups) ≡ true = ap is_some (sym between) ∙ admitted_versions m c.args.version c.groups_between-groups.ensures.state in
    subst (λ (n : Net). first_refusal_of_all n groups ≡ None) (sym net) (led_admitted shown.network groups there)

pub returns : goal.returns
returns g c =
    let m = c.self.inside.ledger.machine in
    let shown = c.self.inside.shown in
    let groups = c.groups_between-groups.result.now in
    let net : c.network.result.now ≡ shown.network = (let a = c.network.ensures in let b = c.deref-3.ensures in let d = c.view-shown.ensures in cc) in
    let at : c.version.result ≡ shown.version = (let a = c.version.ensures in let b = c.deref-2.ensures in let d = c.view-shown.ensures in cc) in
    let way : groups_to m c.args.version ≡ groups_to m shown.version ++ groups = c.groups_between-groups.ensures.groups ∙ ap (λ (v : ℕ). groups_to m v ++ groups) at in
    let between : network_at m c.args.version ≡ after c.network.result.now groups =
    network_between m shown.version c.args.version shown.network groups c.self.invariant.shown_is way ∙ ap (λ (n : Net). after n groups) (sym net) in
    rw (← c.self.view_is) (subst (λ (o : Option Net). Decides c.lead_to.result (o ≡ Some c.args.network.now)) (sym between) c.lead_to.ensures)
