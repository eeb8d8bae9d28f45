use Rattle.std.proofs.Common.{sym}
use Rattle.chunked.proofs.OfChunks.{items_of, full, long}
use Rattle.chunked.proofs.arrays.ChunkedArray.len.Goals as goal

pub returns : goal.returns
returns g c = rw (← c.self.view_is) (sym (long items_of full c.self.inside.chunks c.self.inside.len c.self.invariant))
