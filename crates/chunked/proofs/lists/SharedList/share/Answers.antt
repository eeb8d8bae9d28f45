use Rattle.std.proofs.Common.{◌∙◌, take, ap}
use Rattle.chunked.specs.Tables.{table_items}
use Rattle.chunked.proofs.OfTables.{same_joined}
use Rattle.chunked.proofs.lists.SharedList.share.Goals as goal

pub returns : goal.returns
returns g c = ap (take c.self.inside.len) (same_joined table_items c.self.inside.tables.items c.in_ok-tables.tables.items (c.in_ok-tables.ensures.cases).0) ∙ c.self.view_is
