use Rattle.std.proofs.Common.{◌≡◌, ◌∙◌, ◌%◌, length, get_or, sym, ap, arith}
use Rattle.std.proofs.lemmas.List.{get_or_default}
use Rattle.chunked.proofs.OfChunks.{words_of, full_words, get_item, long}
use Rattle.chunked.proofs.words.ChunkedWords.get.Goals as goal

pub returns : goal.returns
returns c =
    let size : length c.args.self.now ≡ c.self.inside.len = ap length (sym c.self.view_is) ∙ long words_of full_words c.self.inside.chunks c.self.inside.len c.self.invariant in
    let chunk = c.get.result.now in
    let word = get_or chunk.words (c.args.place % 1024) 0 in
    let here : word ≡ get_or chunk.words (c.args.place % 1024) word = get_or_default (words_of chunk) (c.args.place % 1024) 0 word (omega (arith, full_words chunk)) in
    rw (← c.self.view_is) (record { word = get_item words_of full_words c.self.inside.chunks c.self.inside.len c.self.invariant c.args.place chunk word (omega (arith, c.requires.place, size)) c.get.ensures.item here })
