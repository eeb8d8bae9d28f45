use Rattle.std.proofs.Common.{◌≡◌, Option, sym, ap, subst}
use Rattle.history.specs.Origins.{Beginning}
use Rattle.rows.specs.Backs.{LeadsBack}
use Rattle.desk.specs.Shelves.{IsAfter, IsBackOf, Shelved}
use Rattle.desk.proofs.Shelved.{back_found}
use Rattle.desk.proofs.handles.shelves.Shelf.back.Goals as goal

pub returns : goal.returns
returns g c =
    let origin = g.N.Naming.origin in
    let known = c.args.glance.now.known.groups in
    let kept = c.self.inside.groups in
    let groups : kept ≡ c.turn_to.new.self.groups = ap (λ (s : Shelved). s.groups) c.self.view_is in
    let at : IsAfter kept known = subst (λ (o : Option Beginning). IsAfter o known) (sym groups) (c.turn_to.ensures.after c.if-not-turn_to.false) in
    let back : IsBackOf origin kept c.in-Some.back.value = c.self.invariant.4 c.in-Some.back c.in-Some.is in
    let leads : LeadsBack c.args.glance.now.view.network c.in-Some.back.value = back_found origin kept known c.args.glance.now.view c.in-Some.back.value back at c.turn_to.ensures.view in
    rw c.in-Ok.ensures leads
