use Rattle.upgrades.proofs.Matching.{all_within, all_written, so_far_more}
use Rattle.upgrades.proofs.counterparts.counterparts.Goals as goal

pub put_group-requires : goal.put_group-requires
put_group-requires c =
    all_within c.args.stored.now c.args.new.now c.requires.network c.arcs.ensures.network c.args.before.now c.args.after.now c.requires.stored c.requires.new c.loop-next.parts.items c.loop-next.next c.end_of-end.result
    c.loop-next.invariant.count

pub loop-next-preserved : goal.loop-next-preserved
loop-next-preserved c =
    let of_end = c.end_of-end.ensures in
    let of_start = c.first_from-start.ensures in
    let of_from = c.end_of-from.ensures in
    so_far_more c.args.stored.now c.args.new.now c.requires.network c.arcs.ensures.network c.args.before.now c.args.after.now c.requires.stored c.requires.new
    c.loop-next.parts.items c.loop-next.from c.loop-next.next c.pair_at-pair.result c.end_of-end.result c.first_from-start.result c.loop-next.invariant c.loop-next-test.true c.pair_at-pair.ensures
    of_end.after of_end.within of_end.same of_end.stopped c.end_of-from.result of_start.after of_start.passed of_start.stopped of_from.after of_from.within of_from.same of_from.stopped
    c.put_group.new.parts.items c.put_group.ensures.kept c.put_group.ensures.put c.put_group.ensures.count

pub returns : goal.returns
returns c =
    all_written c.args.stored.now c.args.new.now c.requires.network c.arcs.ensures.network c.args.before.now c.args.after.now c.requires.stored c.requires.new c.loop-next.parts.items c.loop-next.from c.loop-next.next
    c.loop-next.invariant c.loop-next-test.false
