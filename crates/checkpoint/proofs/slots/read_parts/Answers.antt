use Rattle.std.proofs.Common.{◌∙◌, ℕ, List, length, ap, sym, subst}
use Rattle.std.specs.Prelude.{map}
use Rattle.std.specs.List.{AllByRecursion}
use Rattle.std.proofs.lemmas.Result.{IfErr-weaker, on_ok_weaker}
use Rattle.pages.specs.Spelling.{IsEnds, word_of}
use Rattle.storefile.specs.StoreFile.{page}
use Rattle.storefile.specs.Judging.{laid_from}
use Rattle.pagereader.proofs.Outcomes.{may_refuse_whole}
use Rattle.checkpoint.specs.Loading.{parts_from}
use Rattle.checkpoint.proofs.Loaded.{parts_stop, same_first}
use Rattle.checkpoint.proofs.slots.read_parts.Goals as goal

pub read_laid-requires-clause-ends : goal.read_laid-requires-clause-ends
read_laid-requires-clause-ends g c =
    subst (AllByRecursion (IsEnds c.args.header.now.nodes)) (sym (same_first c.args.header.now.arcs c.read_words.new.arcs c.args.arcs.now c.read_words.ensures.ends)) c.requires.ends

pub returns-clause-laid : goal.returns-clause-laid
returns-clause-laid g c h =
    let there = c.in_ok-read_words.ensures.reads.same h in
    on_ok_weaker c.read_laid.result
    (λ e. ap (λ (file : List ℕ). laid_from (page file) c.args.header.now c.args.slot (length c.args.arcs.now)) (sym there.same_content)
    ∙ ap (laid_from (page (g.D.Disk.content c.read_words.new.disk)) c.args.header.now c.args.slot) (sym c.read_words.ensures.count) ∙ e)
    (c.read_laid.ensures.spelled (c.in_ok-read_words.ensures.reads.honest.1 h))

pub returns-clause-first : goal.returns-clause-first
returns-clause-first g c =
    on_ok_weaker c.read_laid.result (λ e. c.read_laid.ensures.first ∙ same_first c.args.header.now.arcs c.read_words.new.arcs c.args.arcs.now c.read_words.ensures.ends) c.read_laid.ensures.fits

pub returns-clause-refused : goal.returns-clause-refused
returns-clause-refused g c h =
    let there = c.in_ok-read_words.ensures.reads.same h in
    IfErr-weaker c.read_laid.result _ _
    (λ refusal may. may_refuse_whole (laid_from (page (g.D.Disk.content c.read_words.new.disk)) c.args.header.now c.args.slot (length c.read_words.new.arcs)) (parts_from (page (g.D.Disk.content c.args.disk.now)) c.args.header.now c.args.slot (length c.args.arcs.now)) refusal
    (λ e. parts_stop (page (g.D.Disk.content c.args.disk.now)) c.args.header.now c.args.slot (length c.args.arcs.now) (map word_of c.read_words.new.arcs) refusal (c.in_ok-read_words.ensures.spelled h)
    (ap (λ (file : List ℕ). laid_from (page file) c.args.header.now c.args.slot (length c.args.arcs.now)) (sym there.same_content)
    ∙ ap (laid_from (page (g.D.Disk.content c.read_words.new.disk)) c.args.header.now c.args.slot) (sym c.read_words.ensures.count) ∙ e))
    may)
    (c.read_laid.ensures.refused (c.in_ok-read_words.ensures.reads.honest.1 h))
