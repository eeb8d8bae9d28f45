use Rattle.std.proofs.Common.{◌∙◌, length, sym, ap}
use Rattle.chunked.proofs.OfTables.{list_long}
use Rattle.chunked.proofs.lists.SharedList.len.Goals as goal

pub returns : goal.returns
returns g c = sym (ap length (sym c.self.view_is) ∙ list_long c.self.inside.tables.items c.self.inside.len c.self.invariant)
