use Rattle.chunked.proofs.OfTables.{item_here}
use Rattle.chunked.proofs.tables.item_at.Goals as goal

pub returns : goal.returns
returns g c =
    item_here c.args.tables.now c.args.k c.index-tables-k.result c.deref.result.now c.index-deref-k.result c.deref-2.result.now c.requires.k c.index-tables-k.is c.deref.ensures c.deref-2.ensures
