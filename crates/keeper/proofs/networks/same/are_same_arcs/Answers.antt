use Rattle.std.proofs.Common.{rules, arith, ◌≡◌, ◌<◌, ◌∙◌, sym, get_or, length}
use Rattle.std.proofs.lemmas.List.{take_more_same}
use Rattle.keeper.proofs.networks.same.are_same_arcs.Goals as goal

pub loop-place-preserved : goal.loop-place-preserved
loop-place-preserved c =
    let d = c.get.result.now in
    let one : get_or c.args.some.now c.loop-place.place d ≡ d = search rules in
    let other : get_or c.args.others.now c.loop-place.place d ≡ d = c.get.ensures.item d in
    let lt : c.loop-place.place < length c.args.others.now = omega (arith, c.loop-place-test.true, c.if-some-len.false, c.len.ensures) in
    take_more_same c.args.some.now c.args.others.now c.loop-place.place d c.loop-place-test.true lt c.loop-place.invariant (one ∙ sym other)
