use Rattle.std.proofs.Common.{◌≡◌, ◌∙◌, ℕ, ◌<◌, List, [], length, ap, sym, subst, arith}
use Rattle.std.specs.Prelude.{map}
use Rattle.std.specs.List.{AllByRecursion}
use Rattle.std.proofs.lemmas.Result.{err_from_is_err_and}
use Rattle.roadnet.specs.declared.arcs.RoadArc.{RoadArc}
use Rattle.pages.specs.Spelling.{IsEnds, ends_of}
use Rattle.pages.specs.Layout.{Arcs, page_number, arc_pages}
use Rattle.storefile.specs.StoreFile.{page}
use Rattle.pagereader.specs.Runs.{IsRunOf}
use Rattle.pagereader.proofs.Unchanged.{nothing_read, read_more}
use Rattle.checkpoint.proofs.Flawless.{more_ends}
use Rattle.checkpoint.proofs.SoFar.{EndsSoFar, ends_start, ends_more, ends_stop}
use Rattle.checkpoint.proofs.arcs.read_arcs.Goals as goal

pub loop-i-init : goal.loop-i-init
loop-i-init g c = record {
  said = λ h. let none : [] ≡ c.in-Ok.arcs.items = sym c.in-Ok.ensures.items in
      subst (λ (xs : List RoadArc). EndsSoFar (g.D.Disk.content c.args.disk.now) c.args.header.now xs 0) none (ends_start (g.D.Disk.content c.args.disk.now) c.args.header.now);
  fits = let none : [] ≡ c.in-Ok.arcs.items = sym c.in-Ok.ensures.items in
      subst (λ (xs : List RoadArc). AllByRecursion (IsEnds c.args.header.now.nodes) (map ends_of xs)) none tt;
  count = omega (arith, ap length c.in-Ok.ensures.items);
  run = c.requires.run;
  read = nothing_read g.D.Disk c.args.disk.now;
}

pub returns-in_err-take_page-clause-refused : goal.returns-in_err-take_page-clause-refused
returns-in_err-take_page-clause-refused g c h =
    let p = err_from_is_err_and c.from_residual.result c.from_residual.ensures.1 in
    let then_honest = c.loop-i.invariant.read.honest_then.1 h in
    let lt : c.loop-i.i < arc_pages c.args.header.now = omega arith in
    let at : c.read.new.into ≡ page (g.D.Disk.content c.args.disk.now) (page_number c.args.header.now (Arcs c.loop-i.i)) =
    c.in-Ok-read.ensures.bytes then_honest ∙ ap (λ (file : List ℕ). page file c.arc_page.result) (c.loop-i.invariant.read.stays h).same_content ∙ ap (page (g.D.Disk.content c.args.disk.now)) c.arc_page.ensures in
    rw (p.1, p.2) (ends_stop (g.D.Disk.content c.args.disk.now) c.args.header.now c.loop-i.arcs.items c.loop-i.i c.read.new.into _ (c.loop-i.invariant.said h) lt at c.in_err-take_page.ensures.refused)

pub loop-i-preserved : goal.loop-i-preserved
loop-i-preserved g c = record {
  said = λ h.
      let then_honest = c.loop-i.invariant.read.honest_then.1 h in
      let lt : c.loop-i.i < arc_pages c.args.header.now = omega arith in
      let at : c.read.new.into ≡ page (g.D.Disk.content c.args.disk.now) (page_number c.args.header.now (Arcs c.loop-i.i)) =
      c.in-Ok-read.ensures.bytes then_honest ∙ ap (λ (file : List ℕ). page file c.arc_page.result) (c.loop-i.invariant.read.stays h).same_content ∙ ap (page (g.D.Disk.content c.args.disk.now)) c.arc_page.ensures in
      ends_more (g.D.Disk.content c.args.disk.now) c.args.header.now c.loop-i.arcs.items c.take_page.new.arcs.items c.loop-i.i c.read.new.into (c.loop-i.invariant.said h) lt at c.in_ok-take_page.ensures.spelled;
  fits = more_ends c.args.header.now c.loop-i.i c.read.new.into c.loop-i.arcs.items c.take_page.new.arcs.items c.in_ok-take_page.ensures.spelled c.loop-i.invariant.fits;
  count = c.in_ok-take_page.ensures.count;
  run = λ h. subst (λ (file : List ℕ). IsRunOf file c.read.new.self) (c.loop-i.invariant.read.stays h).same_content (c.in-Ok-read.ensures.run (c.loop-i.invariant.read.honest_then.1 h));
  read = read_more g.D.Disk c.args.disk.now c.loop-i.disk c.read.new.disk c.loop-i.invariant.read
      (record { stays = c.in-Ok-read.ensures.reads.same; honest_then = c.in-Ok-read.ensures.reads.honest; counted = c.in-Ok-read.ensures.reads.counted });
}
