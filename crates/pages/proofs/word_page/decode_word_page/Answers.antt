use Rattle.std.proofs.Common.{◌≡◌, true, arith, sym, ◌∙◌}
use Rattle.pages.proofs.Places.{words_end, words_spelled}
use Rattle.pages.proofs.word_page.decode_word_page.Goals as goal

pub returns-then-not-is_zero_behind : goal.returns-then-not-is_zero_behind
returns-then-not-is_zero_behind c = λ words spells.
    let told : c.is_zero_behind.result ≡ true = c.is_zero_behind.ensures ∙ words_end c.args.count c.args.page.now words spells in
    absurd (cc (told, c.if-not-is_zero_behind.true))

pub returns : goal.returns
returns c =
    let zeros : c.is_zero_behind.result ≡ true = cc (c.if-not-is_zero_behind.false) in
    words_spelled c.args.count c.args.page.now c.in_ok-words.words.items c.fits-page (omega arith) c.requires (sym c.is_zero_behind.ensures ∙ zeros) c.in_ok-words.ensures
