use Rattle.std.proofs.Common.{◌∙◌, ap, refl}
use Rattle.chunked.specs.Tables.{table_items}
use Rattle.chunked.proofs.OfTables.{own, set_item}
use Rattle.chunked.proofs.tables.put.Goals as goal

pub returns-clause-ok : goal.returns-clause-ok
returns-clause-ok g c =
    ap table_items (c.make_mut.follows.holds _ (rw c.in_ok-make_mut.was refl))
    ∙ set_item c.in_ok-make_mut.field-0.now c.args.table.now.value c.args.k c.args.item (own table_items c.in_ok-make_mut.field-0.now c.args.table.now.value c.in_ok-make_mut.ensures.value)
