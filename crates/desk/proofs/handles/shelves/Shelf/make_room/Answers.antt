use Rattle.std.proofs.Common.{rules, ◌<◌, List, length, sym, subst}
use Rattle.desk.specs.declared.handles.shelves.KeptRow.{KeptRow}
use Rattle.desk.specs.Shelves.{IsShelfOf}
use Rattle.desk.proofs.Shelved.{shelf_without}
use Rattle.desk.proofs.handles.shelves.Shelf.make_room.Goals as goal

pub invariant_of-self : goal.invariant_of-self
invariant_of-self g c =
    let origin = g.N.Naming.origin in
    let some : 0 < length c.self.inside.rows.items = search rules in
    let shelf : IsShelfOf origin c.self.inside.groups c.remove-unused.new.self.items = subst (λ (rows : List KeptRow). IsShelfOf origin c.self.inside.groups rows) (sym c.remove-unused.ensures.by_index.2)
    (shelf_without origin c.self.inside.groups c.self.inside.rows.items 0 some c.self.invariant.0) in
    (shelf, search rules, search rules, c.self.invariant.3, c.self.invariant.4)
