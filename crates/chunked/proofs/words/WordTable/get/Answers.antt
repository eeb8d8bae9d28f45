use Rattle.std.proofs.Common.{◌≡◌, ◌∙◌, ◌%◌, length, get_or, sym, ap, arith}
use Rattle.std.proofs.lemmas.List.{get_or_default}
use Rattle.chunked.proofs.OfChunks.{words_of, full_words}
use Rattle.chunked.proofs.OfWords.{get_word, long}
use Rattle.chunked.proofs.words.WordTable.get.Goals as goal

pub returns : goal.returns
returns c =
    let size : length c.args.self.now ≡ c.self.inside.len = ap length (sym c.self.view_is) ∙ long c.self.inside.tables.now c.self.inside.len c.self.invariant in
    let chunk = c.item_at.result.now in
    let word = get_or chunk.words (c.args.place % 1024) 0 in
    let here : word ≡ get_or chunk.words (c.args.place % 1024) word = get_or_default (words_of chunk) (c.args.place % 1024) 0 word (omega (arith, full_words chunk)) in
    rw (← c.self.view_is) (record { word = get_word c.self.inside.tables.now c.self.inside.len c.self.invariant c.args.place chunk word (omega (arith, c.requires.place, size)) c.item_at.ensures here })
