use Rattle.std.proofs.Common.{arith}
use Rattle.deltastep.proofs.Telling.{AreAllWithin-all, all_right_more, all_each_more}
use Rattle.deltastep.proofs.rows.known.all_known.Goals as goal

pub loop-place-preserved : goal.loop-place-preserved
loop-place-preserved g c =
    let t = g.V.Known.values c.args.values.now in
    let place = c.loop-place.place in
    record {
      right = all_right_more t c.args.limit place c.loop-place.known.items c.add_known.new.known.items c.in_ok-add_known.ensures c.loop-place.invariant.right;
      each = all_each_more t c.args.limit place c.loop-place.known.items c.add_known.new.known.items c.in_ok-add_known.ensures c.loop-place.invariant.each;
    }

pub returns : goal.returns
returns g c =
    AreAllWithin-all (g.V.Known.values c.args.values.now) c.args.limit c.args.nodes c.loop-place.known.items c.requires.nodes
    (λ u there. let w = c.loop-place.invariant.right u there in (w.0, omega (arith, w.1), w.2))
    (λ u from to has. c.loop-place.invariant.each u from (omega (arith, to)) has)
