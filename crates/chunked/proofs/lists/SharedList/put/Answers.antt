use Rattle.std.proofs.Common.{◌≡◌, ◌∙◌, ◌/◌, length, sym, ap, arith}
use Rattle.chunked.proofs.OfTables.{list_long, on_err, on_ok}
use Rattle.chunked.proofs.OfPieces.{keep_count, keep_pieces, set_piece}
use Rattle.chunked.proofs.lists.SharedList.put.Goals as goal

pub returns-clause-ok : goal.returns-clause-ok
returns-clause-ok g c =
    let size : length c.args.self.now ≡ c.self.inside.len = ap length (sym c.self.view_is) ∙ list_long c.self.inside.tables.items c.self.inside.len c.self.invariant in
    rw (← c.self.view_is) (on_ok c.put_in_table.result (λ put. set_piece g.P.Piece.items g.P.Piece.full c.self.inside.tables.items c.self.inside.len c.self.invariant c.args.place c.index_mut.result.now c.put_in_table.new.table c.args.item (omega (arith, c.requires.place, size)) c.index_mut.ensures.value put) c.put_in_table.ensures.ok)

pub returns-clause-err : goal.returns-clause-err
returns-clause-err g c =
    rw (← c.self.view_is) (on_err c.put_in_table.result (λ kept. keep_pieces g.P.Piece.items g.P.Piece.full c.self.inside.tables.items c.self.inside.len c.self.invariant (c.args.place / 262144) c.index_mut.result.now c.put_in_table.new.table c.index_mut.ensures.value kept) c.put_in_table.ensures.err)

pub returns-clause-count : goal.returns-clause-count
returns-clause-count g c = rw (← c.self.view_is) (keep_count g.P.Piece.items g.P.Piece.full c.self.inside.tables.items c.self.inside.len c.self.invariant (c.args.place / 262144) c.put_in_table.new.table)
