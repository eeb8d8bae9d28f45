use Rattle.std.proofs.Common.{rules, ◌≡◌, ◌∙◌, List, Option, sym, ap, subst}
use Rattle.history.specs.Origins.{Beginning}
use Rattle.desk.specs.declared.handles.shelves.KeptRow.{KeptRow}
use Rattle.desk.specs.Shelves.{IsShelfOf, IsOfShelf, HasRow, Shelved}
use Rattle.desk.proofs.Shelved.{shelf_with, has_last}
use Rattle.desk.proofs.handles.shelves.Shelf.put.Goals as goal

pub invariant_of-self : goal.invariant_of-self
invariant_of-self g c =
    let origin = g.N.Naming.origin in
    let groups : c.self.inside.groups ≡ c.args.self.now.groups = ap (λ (s : Shelved). s.groups) c.self.view_is ∙ c.make_room.ensures.groups in
    let row : IsOfShelf origin c.self.inside.groups c.args.kept = subst (λ (o : Option Beginning). IsOfShelf origin o c.args.kept) (sym groups) c.requires in
    let shelf : IsShelfOf origin c.self.inside.groups c.push_reserved.new.self.items = subst (λ (rows : List KeptRow). IsShelfOf origin c.self.inside.groups rows) (sym c.push_reserved.ensures.items)
    (shelf_with origin c.self.inside.groups c.self.inside.rows.items c.args.kept c.self.invariant.0 row) in
    (shelf, search rules, search rules, c.self.invariant.3, c.self.invariant.4)

pub returns : goal.returns
returns g c = subst (λ (rows : List KeptRow). HasRow c.args.kept.source rows) (sym c.push_reserved.ensures.items) (has_last c.self.inside.rows.items c.args.kept)
