use Rattle.std.proofs.Common.{◌≡◌, ◌∙◌, List, [], ◌∷◌, ◌++◌, map, get_or, ap, ap₂, sym, arith}
use Rattle.std.proofs.lemmas.List.{map_more, take_all}
use Rattle.roadnet.specs.declared.arcs.RoadArc.{RoadArc}
use Rattle.snapshot.specs.Blocks.{within_block}
use Rattle.snapshot.proofs.regrouping.find_arcs.Goals as goal

pub loop-place-preserved : goal.loop-place-preserved
loop-place-preserved g c d =
    let here : c.within_block.result ≡ within_block (get_or (g.R.Roads.network c.args.roads.now).arcs (get_or c.args.places.now c.loop-place.place-index 0) d) = c.within_block.ensures ∙ ap within_block (sym (c.arc_at_place.ensures d)) in
    c.in_ok-push.ensures.items
    ∙ (ap₂ (λ (xs : List RoadArc) (x : RoadArc). xs ++ x ∷ []) (c.loop-place.invariant d) here
    ∙ sym (map_more (λ place. within_block (get_or (g.R.Roads.network c.args.roads.now).arcs place d)) c.args.places.now c.loop-place.place-index 0 (omega (arith, c.loop-place-test.true))))

pub returns : goal.returns
returns g c d = c.loop-place.invariant d ∙ ap (map (λ place. within_block (get_or (g.R.Roads.network c.args.roads.now).arcs place d))) (take_all c.loop-place.place-index c.args.places.now (omega (arith, c.loop-place-test.false)))
