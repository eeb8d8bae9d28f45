use Rattle.std.proofs.Common.{◌≡◌, ◌∙◌, length, sym, ap, arith}
use Rattle.chunked.proofs.OfChunks.{items_of, full, get_item, long}
use Rattle.chunked.proofs.arrays.ChunkedArray.get.Goals as goal

pub returns : goal.returns
returns g c =
    let size : length c.args.self.now ≡ c.self.inside.len = ap length (sym c.self.view_is) ∙ long items_of full c.self.inside.chunks c.self.inside.len c.self.invariant in
    rw (← c.self.view_is) (record { item = get_item items_of full c.self.inside.chunks c.self.inside.len c.self.invariant c.args.place c.get.result.now c.index.result.now (omega (arith, c.requires.place, size)) c.get.ensures.item c.index.ensures })
