use Rattle.std.proofs.Common.{◌≡◌, List, ◌<◌, ◌^◌, length, map, sym, ap, subst, ◌∙◌, arith}
use Rattle.std.specs.List.{All}
use Rattle.roadnet.specs.declared.arcs.RoadArc.{RoadArc}
use Rattle.pages.specs.Spelling.{word_page, word_of}
use Rattle.storefile.specs.StoreFile.{part}
use Rattle.store.specs.Created.{page_of_words}
use Rattle.store.proofs.Growing.{begun, one_more}
use Rattle.store.proofs.LaidOut.{length-part, words_size}
use Rattle.store.proofs.NewStore.{all_short}
use Rattle.store.proofs.created.creation.put_words.Goals as goal

pub loop-i-init : goal.loop-i-init
loop-i-init g c = begun g.D.Disk.content g.D.Disk.failures g.D.Disk.honest c.args.disk.now c.args.batch.now (page_of_words c.args.network.now) c.requires.in_step

pub encode_word_page-page-requires-clause-count : goal.encode_word_page-page-requires-clause-count
encode_word_page-page-requires-clause-count g c = omega (arith, ap length c.part_of.ensures, length-part 1023 c.loop-i.i c.arcs.result.now)

pub encode_word_page-page-requires-clause-fits : goal.encode_word_page-page-requires-clause-fits
encode_word_page-page-requires-clause-fits g c =
    let is : c.part_of.result.now ≡ part 1023 c.loop-i.i c.args.network.now.arcs = c.part_of.ensures ∙ ap (part 1023 c.loop-i.i) c.arcs.ensures.value in
    subst (λ (xs : List RoadArc). All (λ arc. arc.length < 2 ^ 31) xs) (sym is) (all_short c.args.network.now 1023 c.loop-i.i c.arcs.ensures.network)

pub loop-i-preserved : goal.loop-i-preserved
loop-i-preserved g c =
    let which : c.encode_word_page-page.result ≡ page_of_words c.args.network.now c.loop-i.i = c.encode_word_page-page.ensures ∙ ap (λ (xs : List RoadArc). word_page (map word_of xs)) (c.part_of.ensures ∙ ap (part 1023 c.loop-i.i) c.arcs.ensures.value) in
    one_more g.D.Disk.content g.D.Disk.failures g.D.Disk.honest c.args.disk.now c.loop-i.disk c.put.new.disk c.args.batch.now c.loop-i.batch c.put.new.self (page_of_words c.args.network.now) c.loop-i.i c.encode_word_page-page.result c.loop-i.invariant
    c.in_ok-put.ensures.written c.in_ok-put.ensures.next c.in_ok-put.ensures.counts.counted c.put.ensures.counts.honest.1 c.put.ensures.counts.honest.0 which (ap length which ∙ words_size c.args.network.now c.loop-i.i)
