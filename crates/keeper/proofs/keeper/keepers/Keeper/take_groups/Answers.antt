use Rattle.std.proofs.Common.{◌≡◌, ◌∙◌, ℕ, Some, List, ◌++◌, ap, sym, subst}
use Rattle.roadnet.specs.declared.groups.Group.{Group}
use Rattle.rows.specs.Views.{Viewed}
use Rattle.machine.specs.Machine.{groups_to, network_at}
use Rattle.keeper.proofs.Caught.{leads_on}
use Rattle.keeper.proofs.keeper.keepers.Keeper.take_groups.Goals as goal

pub invariant_of-result : goal.invariant_of-result
invariant_of-result g c =
    let m = c.self.inside.ledger.machine in
    let view = c.in-Ok.view.value in
    let same : view ≡ c.self.inside.shown = (let a = c.in-Ok.ensures in let b = c.view.ensures in cc) in
    let here : network_at m view.version ≡ Some view.network = subst (λ (v : Viewed). network_at m v.version ≡ Some v.network) (sym same) c.self.invariant.shown_is in
    let at : c.durable-version.result ≡ m.durable = c.durable-version.ensures.version in
    let there : network_at m m.durable ≡ Some c.of-network.result.value = c.network.ensures ∙ ap Some (sym c.of-network.ensures) in
    let from : c.version-2.result ≡ view.version = (let a = c.version-2.ensures in let b = c.deref.ensures in cc) in
    let way : groups_to m m.durable ≡ groups_to m view.version ++ c.in_ok-groups.groups.items =
    ap (groups_to m) (sym at)
    ∙ (c.groups_between.ensures.groups ∙ (ap (λ (v : ℕ). groups_to m v ++ c.groups_between.result.now) from ∙ ap (λ (gs : List Group). groups_to m view.version ++ gs) (sym c.in_ok-groups.ensures))) in
    record { leads = leads_on m view.version m.durable view.network c.of-network.result.value c.in_ok-groups.groups.items here there way }
