use Rattle.store.specs.Created.{blank_page}
use Rattle.store.proofs.Growing.{begun, one_more}
use Rattle.store.proofs.LaidOut.{zeros_page, blank_size}
use Rattle.std.proofs.Common.{length, replicate, ap, ◌∙◌}
use Rattle.store.proofs.created.creation.put_blank.Goals as goal

pub loop-init : goal.loop-init
loop-init g c = begun g.D.Disk.content g.D.Disk.failures g.D.Disk.honest c.args.disk.now c.args.batch.now (λ x. blank_page) c.requires.in_step

pub loop-preserved : goal.loop-preserved
loop-preserved g c =
    one_more g.D.Disk.content g.D.Disk.failures g.D.Disk.honest c.args.disk.now c.loop.disk c.put.new.disk c.args.batch.now c.loop.batch c.put.new.self (λ x. blank_page) c.loop.counter (replicate 4096 0) c.loop.invariant
    c.in_ok-put.ensures.written c.in_ok-put.ensures.next c.in_ok-put.ensures.counts.counted c.put.ensures.counts.honest.1 c.put.ensures.counts.honest.0 zeros_page (ap length zeros_page ∙ blank_size)
