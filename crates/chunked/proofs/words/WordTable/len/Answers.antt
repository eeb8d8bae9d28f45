use Rattle.std.proofs.Common.{sym}
use Rattle.chunked.proofs.OfWords.{long}
use Rattle.chunked.proofs.words.WordTable.len.Goals as goal

pub returns : goal.returns
returns c = rw (← c.self.view_is) (sym (long c.self.inside.tables.now c.self.inside.len c.self.invariant))
