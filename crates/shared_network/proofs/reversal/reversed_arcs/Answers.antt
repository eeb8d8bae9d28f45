use Rattle.std.proofs.Common.{◌≡◌, ◌∙◌, ℕ, zero, suc, ◌+◌, ◌<◌, List, [], ◌∷◌, ◌++◌, drop, get_or, length, map, set, take, ap, refl, sym, arith, add-one}
use Rattle.roadnet.specs.declared.arcs.RoadArc.{RoadArc}
use Rattle.roadnet.specs.Reversal.{reversed_arc}
use Rattle.shared_network.proofs.reversal.reversed_arcs.Goals as goal

-- one more arc is turned
turned_next : (arcs : List RoadArc) (i : ℕ) (d : RoadArc) → i < length arcs → set (map reversed_arc (take i arcs) ++ drop i arcs) i (reversed_arc (get_or arcs i d)) ≡ map reversed_arc (take (suc i) arcs) ++ drop (suc i) arcs
turned_next [] i d h = absurd (omega arith)
turned_next (arc ∷ arcs) zero d h = refl
turned_next (arc ∷ arcs) (suc i) d h = ap (λ l. reversed_arc arc ∷ l) (turned_next arcs i d (omega arith))

turned_more : (arcs all new : List RoadArc) (i : ℕ) (arc : RoadArc) → i < length arcs → all ≡ map reversed_arc (take i arcs) ++ drop i arcs → get_or arcs i arc ≡ arc → new ≡ set all i (reversed_arc arc) → new ≡ map reversed_arc (take (i + 1) arcs) ++ drop (i + 1) arcs
turned_more arcs all new i arc h so_far is put =
    put ∙ (ap (λ l. set l i (reversed_arc arc)) so_far
    ∙ (ap (λ a. set (map reversed_arc (take i arcs) ++ drop i arcs) i (reversed_arc a)) (sym is)
    ∙ rw add-one (turned_next arcs i arc h)))

pub loop-place-preserved : goal.loop-place-preserved
loop-place-preserved c =
    turned_more c.args.arcs.now c.loop-place.all c.set.new.self c.loop-place.place c.get.result.now (omega (arith, c.loop-place-test.true, c.len-place-end.ensures)) c.loop-place.invariant (c.get.ensures.item c.get.result.now) (rw c.reversed.ensures at c.in_ok-set.ensures.ok)
