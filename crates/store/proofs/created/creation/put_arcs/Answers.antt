use Rattle.std.proofs.Common.{◌≡◌, List, length, map, ap, ◌∙◌, arith}
use Rattle.roadnet.specs.declared.arcs.RoadArc.{RoadArc}
use Rattle.pages.specs.Spelling.{arc_page, ends_of}
use Rattle.storefile.specs.StoreFile.{part}
use Rattle.store.specs.Created.{page_of_arcs}
use Rattle.store.proofs.Growing.{begun, one_more}
use Rattle.store.proofs.LaidOut.{length-part, arcs_size}
use Rattle.store.proofs.created.creation.put_arcs.Goals as goal

pub loop-i-init : goal.loop-i-init
loop-i-init g c = begun g.D.Disk.content g.D.Disk.failures g.D.Disk.honest c.args.disk.now c.args.batch.now (page_of_arcs c.args.network.now) c.requires.in_step

pub encode_arc_page-page-requires : goal.encode_arc_page-page-requires
encode_arc_page-page-requires g c = omega (arith, ap length c.part_of.ensures, length-part 511 c.loop-i.i c.arcs.result.now)

pub loop-i-preserved : goal.loop-i-preserved
loop-i-preserved g c =
    let which : c.encode_arc_page-page.result ≡ page_of_arcs c.args.network.now c.loop-i.i = c.encode_arc_page-page.ensures ∙ ap (λ (xs : List RoadArc). arc_page (map ends_of xs)) (c.part_of.ensures ∙ ap (part 511 c.loop-i.i) c.arcs.ensures.value) in
    one_more g.D.Disk.content g.D.Disk.failures g.D.Disk.honest c.args.disk.now c.loop-i.disk c.put.new.disk c.args.batch.now c.loop-i.batch c.put.new.self (page_of_arcs c.args.network.now) c.loop-i.i c.encode_arc_page-page.result c.loop-i.invariant
    c.in_ok-put.ensures.written c.in_ok-put.ensures.next c.in_ok-put.ensures.counts.counted c.put.ensures.counts.honest.1 c.put.ensures.counts.honest.0 which (ap length which ∙ arcs_size c.args.network.now c.loop-i.i)
