use Rattle.std.proofs.Common.{◌≡◌, Option, sym, ap, subst}
use Rattle.history.specs.Origins.{Beginning}
use Rattle.roadnet.specs.Reversal.{reversed}
use Rattle.snapshot.specs.Groups.{IsSnapshotOf}
use Rattle.desk.specs.Shelves.{IsAfter, IsTurnedOf, Shelved}
use Rattle.desk.proofs.Shelved.{turned_found}
use Rattle.desk.proofs.handles.shelves.Shelf.turned.Goals as goal

pub returns : goal.returns
returns g c =
    let origin = g.N.Naming.origin in
    let known = c.args.glance.now.known.groups in
    let kept = c.self.inside.groups in
    let groups : kept ≡ c.turn_to.new.self.groups = ap (λ (s : Shelved). s.groups) c.self.view_is in
    let at : IsAfter kept known = subst (λ (o : Option Beginning). IsAfter o known) (sym groups) (c.turn_to.ensures.after c.if-not-turn_to.false) in
    let back : IsTurnedOf origin kept c.in-Some.back.value = c.self.invariant.3 c.in-Some.back c.in-Some.is in
    let turned : IsSnapshotOf (reversed c.args.glance.now.view.network) c.in-Some.back.value = turned_found origin kept known c.args.glance.now.view c.in-Some.back.value back at c.turn_to.ensures.view in
    rw c.in-Ok.ensures turned
