use Rattle.std.proofs.Common.{◌≡◌, ◌∙◌, ◌+◌, ◌*◌, ◌++◌, inr, Err, length, take, ap, sym, arith}
use Rattle.std.specs.Prelude.{map, min}
use Rattle.roadnet.specs.declared.refusals.Refusal.TheVariants.{Damaged}
use Rattle.pages.specs.Spelling.{word_of}
use Rattle.pages.specs.Layout.{Words, page_number, places_in_use}
use Rattle.storefile.specs.Judging.{spelled_at}
use Rattle.checkpoint.proofs.SoFar.{words_told, words_count}
use Rattle.checkpoint.proofs.words.take_page.Goals as goal

pub returns-in_default-found-clause-refused : goal.returns-in_default-found-clause-refused
returns-in_default-found-clause-refused c =
    inr (words_told c.words_on_page.result (places_in_use 1023 c.args.i (length c.args.arcs.now)) (page_number c.args.header.now (Words c.args.slot c.args.i)) c.args.page.now c.in-Ok.found c.fits-page c.words_on_page.ensures c.in-Ok.ensures
    ∙ ap (spelled_at (page_number c.args.header.now (Words c.args.slot c.args.i))) c.in_default-found.is ∙ ap (λ k. Err (Damaged k)) (sym c.word_page.ensures))

pub returns-clause-spelled : goal.returns-clause-spelled
returns-clause-spelled c =
    let last : c.min-first.result + length c.words.result.now ≡ min (1023 * (c.args.i + 1)) (length c.args.arcs.now) =
    omega (arith, ap length c.words.ensures, words_count c.words_on_page.result c.args.page.now c.in-Ok.found c.in-Some.spelled c.in-Ok.ensures c.in-Some.is, c.words_on_page.ensures) in
    record {
      words = c.in-Some.spelled;
      said_is = words_told c.words_on_page.result (places_in_use 1023 c.args.i (length c.args.arcs.now)) (page_number c.args.header.now (Words c.args.slot c.args.i)) c.args.page.now c.in-Ok.found c.fits-page c.words_on_page.ensures c.in-Ok.ensures
          ∙ ap (spelled_at (page_number c.args.header.now (Words c.args.slot c.args.i))) c.in-Some.is;
      put = ap (λ n. map word_of (take n c.put_words.new.arcs)) (sym last) ∙ c.put_words.ensures.words
          ∙ ap (λ n. map word_of (take n c.args.arcs.now) ++ c.words.result.now) c.min-first.ensures
          ∙ ap (λ ws. map word_of (take (min (1023 * c.args.i) (length c.args.arcs.now)) c.args.arcs.now) ++ ws) c.words.ensures;
    }
