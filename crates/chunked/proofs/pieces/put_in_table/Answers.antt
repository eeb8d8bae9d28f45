use Rattle.std.proofs.Common.{◌∙◌, ◌/◌, ◌%◌, ap, refl, arith}
use Rattle.std.specs.List.{flat_map}
use Rattle.chunked.specs.Tables.{table_items}
use Rattle.chunked.proofs.OfTables.{keep_item, on_err, on_ok, own, put_item}
use Rattle.chunked.proofs.pieces.put_in_table.Goals as goal

pub returns-clause-ok : goal.returns-clause-ok
returns-clause-ok g c =
    let table = c.in_ok-make_mut.field-0.now in
    on_ok c.put.result (λ put.
    ap (λ t. flat_map g.P.Piece.items (table_items t)) (c.make_mut.follows.holds _ (rw c.in_ok-make_mut.was refl))
    ∙ put_item g.P.Piece.items table c.args.table.now.value (c.args.place / 1024) c.index-branch-place.result c.put.new.piece (own table_items table c.args.table.now.value c.in_ok-make_mut.ensures.value) 1024 g.P.Piece.full c.args.place (c.args.place % 1024) c.args.item (omega arith) (omega (arith, c.requires.place)) (omega arith) put) c.put.ensures.ok

pub returns-clause-err : goal.returns-clause-err
returns-clause-err g c =
    let table = c.in_ok-make_mut.field-0.now in
    on_err c.put.result (λ kept.
    ap (λ t. flat_map g.P.Piece.items (table_items t)) (c.make_mut.follows.holds _ (rw c.in_ok-make_mut.was refl))
    ∙ keep_item g.P.Piece.items table c.args.table.now.value (c.args.place / 1024) c.index-branch-place.result c.put.new.piece (own table_items table c.args.table.now.value c.in_ok-make_mut.ensures.value) kept) c.put.ensures.err
