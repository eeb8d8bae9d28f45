use Rattle.std.proofs.Common.{◌≡◌, ◌∙◌, length, sym, ap, arith}
use Rattle.chunked.proofs.OfTables.{list_long}
use Rattle.chunked.proofs.lists.SharedList.push.Goals as goal

pub overflow_add-self : goal.overflow_add-self
overflow_add-self g c =
    let size : length c.args.self.now ≡ c.self.inside.len = ap length (sym c.self.view_is) ∙ list_long c.self.inside.tables.items c.self.inside.len c.self.invariant in
    omega (arith, c.requires.room, size)
