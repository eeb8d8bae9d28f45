use Rattle.std.proofs.Common.{◌≡◌, ◌∙◌, ◌-◌, ◌<◌, drop, length, refl, arith}
use Rattle.std.proofs.lemmas.List.{length-drop, take_all}
use Rattle.rows.specs.Backs.{numbered_from}
use Rattle.rows.proofs.Numbering.{length-numbered, one_more}
use Rattle.rows.proofs.backs.numbered_arcs.Goals as goal

pub loop-place-init : goal.loop-place-init
loop-place-init c =
    let none : c.args.first - c.args.first ≡ 0 = omega arith in
    record {
      from = omega arith;
      all = rw (c.new-all.ensures.items, none) refl;
    }

pub loop-place-preserved : goal.loop-place-preserved
loop-place-preserved c =
    let arcs = c.args.network.now.arcs in
    let within : c.loop-place.place < length arcs = omega (arith, c.loop-place-test.true, c.arc_count-place-end.ensures, length-numbered 1 arcs) in
    record {
      from = omega (arith, c.loop-place.invariant.from);
      all = one_more arcs c.args.first c.loop-place.place c.loop-place.all.items c.push.new.self.items c.arc_at_place.result c.loop-place.invariant.from within c.loop-place.invariant.all (c.arc_at_place.ensures c.arc_at_place.result) c.in_ok-push.ensures.items;
    }

pub returns : goal.returns
returns c =
    let all = numbered_from 1 c.args.network.now.arcs in
    c.loop-place.invariant.all ∙ take_all (c.loop-place.place - c.args.first) (drop c.args.first all) (omega (arith, length-drop c.args.first all, c.loop-place-test.false, c.arc_count-place-end.ensures))
