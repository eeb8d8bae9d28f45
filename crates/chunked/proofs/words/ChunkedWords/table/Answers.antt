use Rattle.std.proofs.Common.{◌∙◌, arith}
use Rattle.chunked.proofs.OfWords.{whole}
use Rattle.chunked.proofs.words.ChunkedWords.table.Goals as goal

pub returns : goal.returns
returns c = whole c.tables.result.now c.self.inside.len c.self.inside.chunks c.tables.ensures.items (omega (arith, c.self.invariant)) ∙ c.self.view_is
