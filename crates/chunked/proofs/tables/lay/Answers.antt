use Rattle.std.proofs.Common.{◌≡◌, ◌∙◌, ◌/◌, ◌%◌, replicate, ap, arith}
use Rattle.chunked.specs.Tables.{table_items}
use Rattle.chunked.proofs.Items.{push_items, push_chunk}
use Rattle.chunked.proofs.OfTables.{full_table, keep_joined, of_table, on_err, on_ok}
use Rattle.chunked.proofs.tables.lay.Goals as goal

pub returns-then-k-len-clause-ok : goal.returns-then-k-len-clause-ok
returns-then-k-len-clause-ok g c =
    on_ok c.put.result (λ put. push_items of_table 256 full_table c.args.tables.now.items c.args.k (c.args.k / 256) (c.args.k % 256) c.index_mut.result.now c.put.new.table c.args.item.value (omega arith) (omega (arith, c.if-k-len.true, c.len.ensures)) (omega (arith, c.if-k-len.true, c.len.ensures)) (omega arith) c.index_mut.ensures.value put) c.put.ensures.ok

pub returns-then-k-len-clause-err : goal.returns-then-k-len-clause-err
returns-then-k-len-clause-err g c =
    on_err c.put.result (λ kept. keep_joined of_table c.args.tables.now.items (c.args.k / 256) c.index_mut.result.now c.put.new.table (kept ∙ ap of_table c.index_mut.ensures.value)) c.put.ensures.err

pub returns-clause-ok : goal.returns-clause-ok
returns-clause-ok g c =
    let same : table_items c.in_ok-table.table.value ≡ replicate 256 c.args.item.value = ap table_items c.in_ok-table.ensures.ok ∙ c.in_ok-filled.ensures in
    rw c.in_ok-push.ensures.items (push_chunk of_table 256 full_table c.args.tables.now.items c.in_ok-table.table c.args.k c.args.item.value (omega (arith, c.if-k-len.false, c.len.ensures, c.requires.k)) (omega arith) same)
