use Rattle.std.proofs.Common.{◌≡◌, ◌-◌, ℕ, List, take, sym, ap, ◌∙◌, subst}
use mathlib.Core.List.{IsPrefix}
use Rattle.roadnet.specs.declared.groups.Group.{Group}
use Rattle.rows.specs.Views.{Viewed}
use Rattle.history.specs.Origins.{Beginning}
use Rattle.published.specs.Showing.{Showing}
use Rattle.office.proofs.Agreed.{task_begins}
use Rattle.office.proofs.offices.Office.show_admitted.Goals as goal

pub switch-requires-clause-begins : goal.switch-requires-clause-begins
switch-requires-clause-begins g c =
    let groups = c.self.inside.history.groups in
    let m = c.self.inside.keeper.machine in
    let viewed = c.args.view.value in
    let same : c.version.result ≡ viewed.version = c.version.ensures ∙ ap (λ (x : Viewed). x.version) c.deref.ensures in
    let next : c.new-next.result.shown.groups ≡ take (viewed.version - m.base_version) groups =
    ap (λ (x : Showing). x.shown.groups) c.new-next.ensures ∙ (ap (λ (b : Beginning). b.groups) c.front.ensures
    ∙ (ap (λ (v : ℕ). take (v - c.opened.result) groups) same ∙ ap (λ (v : ℕ). take (viewed.version - v) groups) c.opened.ensures.version)) in
    let out = rw (← c.self.view_is) at c.requires in
    subst (λ (l : List Group). IsPrefix c.self.inside.publisher.shown.groups l) (sym next)
    (task_begins _ _ _ _ _ c.self.invariant.0 c.opened.ensures.state viewed.version viewed.network out)
