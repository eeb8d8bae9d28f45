use Rattle.std.proofs.Common.{◌≡◌, ◌∙◌, ℕ, ◌+◌, ◌-◌, ◌*◌, ◌<◌, ◌≤◌, List, length, take, drop, sym, refl, ap, subst, arith}
use Rattle.std.specs.Prelude.{min}
use Rattle.std.specs.List.{AllByRecursion}
use Rattle.pages.specs.Spelling.{IsEnds}
use Rattle.std.proofs.lemmas.Result.{err_from_is_err_and}
use Rattle.pages.specs.Layout.{EndsOf, page_number, end_pages}
use Rattle.storefile.specs.StoreFile.{page}
use Rattle.pagereader.specs.Runs.{IsRunOf}
use Rattle.pagereader.proofs.Unchanged.{nothing_read, read_more}
use Rattle.checkpoint.proofs.Flawless.{none_laid, more_laid, all_ends}
use Rattle.checkpoint.proofs.SoFar.{laid_start, laid_more, laid_stop_as, laid_done}
use Rattle.checkpoint.specs.Loading.{EndsArePut, laid_of_page}
use Rattle.checkpoint.proofs.laid.read_laid.Goals as goal

pub loop-i-init : goal.loop-i-init
loop-i-init g c = record {
  said = λ h. laid_start (g.D.Disk.content c.args.disk.now) c.args.header.now c.args.slot (length c.args.arcs.now) c.args.arcs.now;
  fits = none_laid c.args.header.now (length c.args.arcs.now) c.args.arcs.now;
  count = refl;
  first = refl;
  words = refl;
  run = c.requires.run;
  read = nothing_read g.D.Disk c.args.disk.now;
}

pub returns-in_err-take_page-clause-refused : goal.returns-in_err-take_page-clause-refused
returns-in_err-take_page-clause-refused g c h =
    let p = err_from_is_err_and c.from_residual.result c.from_residual.ensures.1 in
    let then_honest = c.loop-i.invariant.read.honest_then.1 h in
    let lt : c.loop-i.i < end_pages c.args.header.now = omega arith in
    let at : c.read.new.into ≡ page (g.D.Disk.content c.args.disk.now) (page_number c.args.header.now (EndsOf c.args.slot c.loop-i.i)) =
    c.in-Ok.ensures.bytes then_honest ∙ ap (λ (file : List ℕ). page file c.end_page.result) (c.loop-i.invariant.read.stays h).same_content ∙ ap (page (g.D.Disk.content c.args.disk.now)) c.end_page.ensures in
    rw (p.1, p.2) (laid_stop_as (g.D.Disk.content c.args.disk.now) c.args.header.now c.args.slot (length c.args.arcs.now) (length c.loop-i.arcs) c.loop-i.arcs c.loop-i.i c.read.new.into _ c.loop-i.invariant.count (c.loop-i.invariant.said h) lt at c.in_err-take_page.ensures.refused)

pub loop-i-preserved : goal.loop-i-preserved
loop-i-preserved g c = record {
  said = λ h.
      let put = subst (λ (n : ℕ). EndsArePut (laid_of_page c.args.header.now c.args.slot n c.loop-i.i c.read.new.into) (take (min (511 * c.loop-i.i) (n - c.args.header.now.arcs)) (drop c.args.header.now.arcs c.loop-i.arcs)) (take (min (511 * (c.loop-i.i + 1)) (n - c.args.header.now.arcs)) (drop c.args.header.now.arcs c.take_page.new.arcs))) c.loop-i.invariant.count c.in_ok-take_page.ensures.spelled in
      let then_honest = c.loop-i.invariant.read.honest_then.1 h in
      let lt : c.loop-i.i < end_pages c.args.header.now = omega arith in
      let at : c.read.new.into ≡ page (g.D.Disk.content c.args.disk.now) (page_number c.args.header.now (EndsOf c.args.slot c.loop-i.i)) =
      c.in-Ok.ensures.bytes then_honest ∙ ap (λ (file : List ℕ). page file c.end_page.result) (c.loop-i.invariant.read.stays h).same_content ∙ ap (page (g.D.Disk.content c.args.disk.now)) c.end_page.ensures in
      laid_more (g.D.Disk.content c.args.disk.now) c.args.header.now c.args.slot (length c.args.arcs.now) c.loop-i.arcs c.take_page.new.arcs c.loop-i.i c.read.new.into (c.loop-i.invariant.said h) lt at put;
  fits = more_laid c.args.header.now c.args.slot (length c.args.arcs.now) c.loop-i.i c.read.new.into (take (min (511 * c.loop-i.i) (length c.args.arcs.now - c.args.header.now.arcs)) (drop c.args.header.now.arcs c.loop-i.arcs)) (take (min (511 * (c.loop-i.i + 1)) (length c.args.arcs.now - c.args.header.now.arcs)) (drop c.args.header.now.arcs c.take_page.new.arcs)) (subst (λ (n : ℕ). EndsArePut (laid_of_page c.args.header.now c.args.slot n c.loop-i.i c.read.new.into) (take (min (511 * c.loop-i.i) (n - c.args.header.now.arcs)) (drop c.args.header.now.arcs c.loop-i.arcs)) (take (min (511 * (c.loop-i.i + 1)) (n - c.args.header.now.arcs)) (drop c.args.header.now.arcs c.take_page.new.arcs))) c.loop-i.invariant.count c.in_ok-take_page.ensures.spelled) c.loop-i.invariant.fits;
  count = c.take_page.ensures.count ∙ c.loop-i.invariant.count;
  first = c.take_page.ensures.first ∙ c.loop-i.invariant.first;
  words = c.take_page.ensures.words ∙ c.loop-i.invariant.words;
  run = λ h. subst (λ (file : List ℕ). IsRunOf file c.read.new.self) (c.loop-i.invariant.read.stays h).same_content (c.in-Ok.ensures.run (c.loop-i.invariant.read.honest_then.1 h));
  read = read_more g.D.Disk c.args.disk.now c.loop-i.disk c.read.new.disk c.loop-i.invariant.read
      (record { stays = c.in-Ok.ensures.reads.same; honest_then = c.in-Ok.ensures.reads.honest; counted = c.in-Ok.ensures.reads.counted });
}

pub returns-clause-spelled : goal.returns-clause-spelled
returns-clause-spelled g c h =
    let past : end_pages c.args.header.now ≤ c.loop-i.i = omega arith in
    let count = c.loop-i.invariant.count in
    laid_done (g.D.Disk.content c.args.disk.now) c.args.header.now c.args.slot (length c.args.arcs.now) c.loop-i.arcs c.loop-i.i past count c.requires.count (c.loop-i.invariant.said h)

pub returns-clause-fits : goal.returns-clause-fits
returns-clause-fits g c =
    let past : end_pages c.args.header.now ≤ c.loop-i.i = omega arith in
    let first = subst (AllByRecursion (IsEnds c.args.header.now.nodes)) (sym c.loop-i.invariant.first) c.requires.ends in
    all_ends c.args.header.now (length c.args.arcs.now) c.loop-i.arcs c.loop-i.i past c.loop-i.invariant.count c.requires.count first c.loop-i.invariant.fits
