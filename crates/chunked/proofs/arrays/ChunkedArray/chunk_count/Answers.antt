use Rattle.std.proofs.Common.{◌≡◌, ◌∙◌, length, sym, ap, arith}
use Rattle.chunked.proofs.OfChunks.{items_of, full, long}
use Rattle.chunked.proofs.arrays.ChunkedArray.chunk_count.Goals as goal

pub returns : goal.returns
returns g c =
    let size : length c.args.self.now ≡ c.self.inside.len = ap length (sym c.self.view_is) ∙ long items_of full c.self.inside.chunks c.self.inside.len c.self.invariant in
    rw size (c.div_ceil.ensures ∙ omega arith)
