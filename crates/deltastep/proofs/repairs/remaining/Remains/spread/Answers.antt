use Rattle.std.proofs.Common.{◌<◌, ◌≤◌, length, arith}
use Rattle.deltastep.proofs.Thinning.{Thins-on, IsClosedBut-next, IsClosedBut-over, All-spread_next}
use Rattle.deltastep.proofs.repairs.remaining.Remains.spread.Goals as goal

pub loop-place-preserved : goal.loop-place-preserved
loop-place-preserved c =
    let ensures = c.in_ok-lose_behind.ensures in
    let before = c.loop-place.self in
    let after = c.lose_behind.new.self in
    let lt : c.loop-place.place < length before.lost.items = omega arith in
    record {
      thins = Thins-on c.args.source c.args.self.now.tentative before.tentative after.tentative c.args.self.now.lost.items before.lost.items after.lost.items c.loop-place.invariant.thins ensures.thins;
      closed = IsClosedBut-next c.args.after.now c.args.source c.args.row.now before.tentative after.tentative before.lost.items after.lost.items ensures.thins c.loop-place.invariant.closed;
      spread = All-spread_next c.args.after.now c.args.source c.args.row.now before.tentative after.tentative before.lost.items after.lost.items c.loop-place.place c.index-node.result.now lt c.index-node.ensures ensures.thins ensures.spread c.loop-place.invariant.spread;
    }

pub returns-then-place-len-clause-closed : goal.returns-then-place-len-clause-closed
returns-then-place-len-clause-closed c =
    let s = c.loop-place.self in
    let past : length s.lost.items ≤ c.loop-place.place = omega (arith, c.if-place-len.true, c.len.ensures) in
    IsClosedBut-over c.args.after.now c.args.source c.args.row.now s.tentative s.lost.items c.loop-place.place past c.loop-place.invariant.spread c.loop-place.invariant.closed
