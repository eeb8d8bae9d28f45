use Rattle.std.proofs.Common.{◌≡◌, ◌∙◌, ℕ, ◌+◌, ◌*◌, ◌<◌, ◌≤◌, List, length, take, refl, ap, subst, arith}
use Rattle.std.specs.Prelude.{min}
use Rattle.std.proofs.lemmas.Result.{err_from_is_err_and}
use Rattle.pages.specs.Layout.{Words, page_number, word_pages}
use Rattle.storefile.specs.StoreFile.{page}
use Rattle.pagereader.specs.Runs.{IsRunOf}
use Rattle.pagereader.proofs.Unchanged.{nothing_read, read_more}
use Rattle.checkpoint.proofs.Flawless.{none_yet, more_words, whole_fits}
use Rattle.checkpoint.proofs.SoFar.{words_start, words_more, words_stop_as, words_done}
use Rattle.checkpoint.specs.Loading.{WordsArePut, words_of_page}
use Rattle.checkpoint.proofs.words.read_words.Goals as goal

pub loop-i-init : goal.loop-i-init
loop-i-init g c = record {
  said = λ h. words_start (g.D.Disk.content c.args.disk.now) c.args.header.now c.args.slot (length c.args.arcs.now) c.args.arcs.now;
  fits = none_yet (length c.args.arcs.now) c.args.arcs.now;
  count = refl;
  ends = refl;
  run = c.requires.run;
  read = nothing_read g.D.Disk c.args.disk.now;
}

pub returns-in_err-take_page-clause-refused : goal.returns-in_err-take_page-clause-refused
returns-in_err-take_page-clause-refused g c h =
    let p = err_from_is_err_and c.from_residual.result c.from_residual.ensures.1 in
    let then_honest = c.loop-i.invariant.read.honest_then.1 h in
    let lt : c.loop-i.i < word_pages c.args.header.now = omega arith in
    let at : c.read.new.into ≡ page (g.D.Disk.content c.args.disk.now) (page_number c.args.header.now (Words c.args.slot c.loop-i.i)) =
    c.in-Ok.ensures.bytes then_honest ∙ ap (λ (file : List ℕ). page file c.word_page.result) (c.loop-i.invariant.read.stays h).same_content ∙ ap (page (g.D.Disk.content c.args.disk.now)) c.word_page.ensures in
    rw (p.1, p.2) (words_stop_as (g.D.Disk.content c.args.disk.now) c.args.header.now c.args.slot (length c.args.arcs.now) (length c.loop-i.arcs) c.loop-i.arcs c.loop-i.i c.read.new.into _ c.loop-i.invariant.count (c.loop-i.invariant.said h) lt at c.in_err-take_page.ensures.refused)

pub loop-i-preserved : goal.loop-i-preserved
loop-i-preserved g c = record {
  said = λ h.
      let put = subst (λ (n : ℕ). WordsArePut (words_of_page c.args.header.now c.args.slot n c.loop-i.i c.read.new.into) (take (min (1023 * c.loop-i.i) n) c.loop-i.arcs) (take (min (1023 * (c.loop-i.i + 1)) n) c.take_page.new.arcs)) c.loop-i.invariant.count c.in_ok-take_page.ensures.spelled in
      let then_honest = c.loop-i.invariant.read.honest_then.1 h in
      let lt : c.loop-i.i < word_pages c.args.header.now = omega arith in
      let at : c.read.new.into ≡ page (g.D.Disk.content c.args.disk.now) (page_number c.args.header.now (Words c.args.slot c.loop-i.i)) =
      c.in-Ok.ensures.bytes then_honest ∙ ap (λ (file : List ℕ). page file c.word_page.result) (c.loop-i.invariant.read.stays h).same_content ∙ ap (page (g.D.Disk.content c.args.disk.now)) c.word_page.ensures in
      words_more (g.D.Disk.content c.args.disk.now) c.args.header.now c.args.slot (length c.args.arcs.now) c.loop-i.arcs c.take_page.new.arcs c.loop-i.i c.read.new.into (c.loop-i.invariant.said h) lt at put;
  fits = more_words c.args.header.now c.args.slot (length c.args.arcs.now) c.loop-i.i c.read.new.into (take (min (1023 * c.loop-i.i) (length c.args.arcs.now)) c.loop-i.arcs) (take (min (1023 * (c.loop-i.i + 1)) (length c.args.arcs.now)) c.take_page.new.arcs) (subst (λ (n : ℕ). WordsArePut (words_of_page c.args.header.now c.args.slot n c.loop-i.i c.read.new.into) (take (min (1023 * c.loop-i.i) n) c.loop-i.arcs) (take (min (1023 * (c.loop-i.i + 1)) n) c.take_page.new.arcs)) c.loop-i.invariant.count c.in_ok-take_page.ensures.spelled) c.loop-i.invariant.fits;
  count = c.take_page.ensures.count ∙ c.loop-i.invariant.count;
  ends = c.take_page.ensures.ends ∙ c.loop-i.invariant.ends;
  run = λ h. subst (λ (file : List ℕ). IsRunOf file c.read.new.self) (c.loop-i.invariant.read.stays h).same_content (c.in-Ok.ensures.run (c.loop-i.invariant.read.honest_then.1 h));
  read = read_more g.D.Disk c.args.disk.now c.loop-i.disk c.read.new.disk c.loop-i.invariant.read
      (record { stays = c.in-Ok.ensures.reads.same; honest_then = c.in-Ok.ensures.reads.honest; counted = c.in-Ok.ensures.reads.counted });
}

pub returns-clause-spelled : goal.returns-clause-spelled
returns-clause-spelled g c h =
    let past : word_pages c.args.header.now ≤ c.loop-i.i = omega arith in
    let count = c.loop-i.invariant.count in
    words_done (g.D.Disk.content c.args.disk.now) c.args.header.now c.args.slot (length c.args.arcs.now) c.loop-i.arcs c.loop-i.i past count c.requires.count (c.loop-i.invariant.said h)

pub returns-clause-fits : goal.returns-clause-fits
returns-clause-fits g c =
    let past : word_pages c.args.header.now ≤ c.loop-i.i = omega arith in
    let count = c.loop-i.invariant.count in
    whole_fits c.args.header.now (length c.args.arcs.now) c.loop-i.arcs c.loop-i.i past count c.requires.count c.loop-i.invariant.fits
