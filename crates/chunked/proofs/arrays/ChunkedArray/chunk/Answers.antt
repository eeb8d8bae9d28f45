use Rattle.std.proofs.Common.{arith}
use Rattle.chunked.proofs.OfChunks.{items_of, full, chunk_items}
use Rattle.chunked.proofs.arrays.ChunkedArray.chunk.Goals as goal

pub returns : goal.returns
returns g c =
    rw (← c.self.view_is, c.deref.ensures.value, c.min.ensures)
    (chunk_items items_of full c.self.inside.chunks c.self.inside.len c.self.invariant c.args.k c.get.result.now (omega (arith, c.div_ceil.ensures, c.if-k-div_ceil.false)) c.get.ensures.item)
