use Rattle.std.proofs.Common.{◌≡◌, ◌∙◌, length, take, sym, ap, arith}
use Rattle.chunked.proofs.OfChunks.{words_of, full_words, long, set_item}
use Rattle.chunked.proofs.OfTables.{on_err, on_ok}
use Rattle.chunked.proofs.words.ChunkedWords.set.Goals as goal

pub returns-clause-ok : goal.returns-clause-ok
returns-clause-ok c =
    let size : length c.args.self.now ≡ c.self.inside.len = ap length (sym c.self.view_is) ∙ long words_of full_words c.self.inside.chunks c.self.inside.len c.self.invariant in
    rw (← c.self.view_is) (on_ok c.put.result (λ put. set_item words_of full_words c.self.inside.chunks c.self.inside.len c.self.invariant c.put.new.self c.args.place c.args.word put (omega (arith, c.requires.place, size))) c.put.ensures.ok)

pub returns-clause-err : goal.returns-clause-err
returns-clause-err c = rw (← c.self.view_is) (on_err c.put.result (λ kept. ap (take c.self.inside.len) kept) c.put.ensures.err)
