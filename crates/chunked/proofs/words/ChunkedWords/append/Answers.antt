use Rattle.std.proofs.Common.{◌≡◌, ◌≢◌, ◌∙◌, [], ◌∷◌, length, sym, ap, arith}
use Rattle.chunked.proofs.OfChunks.{words_of, full_words, lay_items, long}
use Rattle.std.proofs.lemmas.Bool.{eqb-false}
use Rattle.std.proofs.lemmas.List.{length-append}
use Rattle.chunked.proofs.words.ChunkedWords.append.Goals as goal

pub overflow_add-self : goal.overflow_add-self
overflow_add-self c =
    let size : length c.args.self.now ≡ c.self.inside.len = ap length (sym c.self.view_is) ∙ long words_of full_words c.self.inside.chunks c.self.inside.len c.self.invariant in
    omega (arith, c.requires.room, c.requires.few, size)

pub invariant_of-self-2 : goal.invariant_of-self-2
invariant_of-self-2 c =
    let size : length c.args.self.now ≡ c.self.inside.len = ap length (sym c.self.view_is) ∙ long words_of full_words c.self.inside.chunks c.self.inside.len c.self.invariant in
    let some : length c.args.words.now ≢ 0 = eqb-false (length c.args.words.now) 0 (sym c.is_empty.ensures ∙ c.if-is_empty.false) in
    ap length c.in_ok-push.ensures.ok ∙ (length-append c.self.inside.chunks (c.beginning.result ∷ []) ∙ omega (arith, size, c.self.invariant, c.requires.whole, c.requires.few, some))

pub returns-clause-ok : goal.returns-clause-ok
returns-clause-ok c =
    let size : length c.args.self.now ≡ c.self.inside.len = ap length (sym c.self.view_is) ∙ long words_of full_words c.self.inside.chunks c.self.inside.len c.self.invariant in
    rw (← c.self.view_is)
    (lay_items words_of full_words c.self.inside.chunks c.self.inside.len c.self.invariant c.push.new.self c.beginning.result c.args.words.now (omega (arith, c.requires.whole, size)) c.requires.few c.in_ok-push.ensures.ok c.beginning.ensures)
