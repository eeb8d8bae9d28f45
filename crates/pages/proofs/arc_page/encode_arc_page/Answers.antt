use Rattle.std.proofs.Common.{◌+◌, ◌≤◌, length, refl, arith}
use Rattle.pages.proofs.Places.{arc_room, room_after}
use Rattle.pages.proofs.arc_page.encode_arc_page.Goals as goal

pub put_u32-requires : goal.put_u32-requires
put_u32-requires c = let room : length c.loop-arc.page + 8 ≤ 4096 = arc_room c.loop-arc.page c.args.arcs.now c.loop-arc.arc-index c.requires c.loop-arc-test.true c.loop-arc.invariant in omega arith

pub put_u32-requires-in-loop-arc : goal.put_u32-requires-in-loop-arc
put_u32-requires-in-loop-arc c =
    room_after c.loop-arc.page c.put_u32.new.self _ c.put_u32.ensures refl (arc_room c.loop-arc.page c.args.arcs.now c.loop-arc.arc-index c.requires c.loop-arc-test.true c.loop-arc.invariant)
