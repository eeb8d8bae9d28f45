use Rattle.std.proofs.Common.{◌≤◌, map, arith}
use Rattle.std.proofs.lemmas.List.Elements.{All-append}
use Rattle.roadnet.specs.declared.arcs.RoadArc.{RoadArc}
use Rattle.snapshot.specs.Appended.{arc_of}
use Rattle.snapshot.specs.Blocks.{block_parts}
use Rattle.snapshot.proofs.Appended.{HasTails-more, low_tails}
use Rattle.snapshot.proofs.appending.find_light.Goals as goal

pub loop-tail-preserved : goal.loop-tail-preserved
loop-tail-preserved c =
    let parts = block_parts c.args.block.now.starts c.args.block.now.legs.items in
    rw c.in_ok-add_arcs.ensures
    (record {
      tails = All-append (λ (arc : RoadArc). arc.tail ≤ 1023) c.loop-tail.found.items (map (arc_of c.loop-tail.tail) c.legs.result.now) c.loop-tail.invariant.tails (low_tails c.legs.result.now c.loop-tail.tail (omega (arith, c.loop-tail-test.true)));
      legs = HasTails-more parts c.loop-tail.tail c.loop-tail.found.items c.legs.result.now c.legs.ensures c.loop-tail.invariant.legs;
    })
