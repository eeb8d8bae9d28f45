use Rattle.std.proofs.Common.{sym}
use Rattle.chunked.proofs.OfChunks.{words_of, full_words, long}
use Rattle.chunked.proofs.words.ChunkedWords.len.Goals as goal

pub returns : goal.returns
returns c = rw (← c.self.view_is) (sym (long words_of full_words c.self.inside.chunks c.self.inside.len c.self.invariant))
