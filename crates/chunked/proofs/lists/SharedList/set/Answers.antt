use Rattle.std.proofs.Common.{◌≡◌, ◌∙◌, ◌/◌, ◌%◌, set, length, take, sym, ap, arith}
use Rattle.chunked.proofs.Items.{set_items}
use Rattle.chunked.proofs.OfTables.{full_table, keep_joined, list_long, of_table, on_err, on_ok}
use Rattle.chunked.proofs.lists.SharedList.set.Goals as goal

pub returns-clause-ok : goal.returns-clause-ok
returns-clause-ok g c =
    let tables = c.self.inside.tables.items in
    let size : length c.args.self.now ≡ c.self.inside.len = ap length (sym c.self.view_is) ∙ list_long tables c.self.inside.len c.self.invariant in
    rw (← c.self.view_is) (on_ok c.put.result (λ put. set_items of_table 256 full_table tables c.self.inside.len c.args.place (c.args.place / 256) (c.args.place % 256) c.index_mut.result.now c.put.new.table c.args.item (omega (arith, c.requires.place, size)) (omega arith) (omega (arith, c.requires.place, size, c.self.invariant)) (omega arith) c.index_mut.ensures.value (put ∙ ap (set (of_table c.index_mut.result.now) (c.args.place % 256)) c.in_ok-item.ensures.ok)) c.put.ensures.ok)

pub returns-clause-err : goal.returns-clause-err
returns-clause-err g c =
    rw (← c.self.view_is) (on_err c.put.result (λ kept. ap (take c.self.inside.len) (keep_joined of_table c.self.inside.tables.items (c.args.place / 256) c.index_mut.result.now c.put.new.table (kept ∙ ap of_table c.index_mut.ensures.value))) c.put.ensures.err)
