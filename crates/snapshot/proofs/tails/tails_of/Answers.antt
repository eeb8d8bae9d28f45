use Rattle.std.proofs.Common.{◌≡◌, ℕ, List, [], ◌∷◌, Some, take, get_or, sym, subst, arith, Contains, ⊎_elim}
use Rattle.std.proofs.lemmas.List.{take_all, take_more}
use Rattle.roadnet.specs.declared.arcs.RoadArc.{RoadArc}
use Rattle.roadnet.specs.Net.{nth}
use Rattle.std.proofs.lemmas.List.Elements.{Contains-append_cases}
use Rattle.snapshot.proofs.Grouped.{Contains-one}
use Rattle.snapshot.proofs.tails.tails_of.Goals as goal

pub loop-number-preserved : goal.loop-number-preserved
loop-number-preserved c k arc among at =
    ⊎_elim
    (λ (before : Contains (take c.loop-number.number-index c.args.numbers.now) k). c.in_ok-add_tail.ensures.kept arc.tail (c.loop-number.invariant k arc before at))
    (λ (now : Contains (get_or c.args.numbers.now c.loop-number.number-index 0 ∷ []) k). c.in_ok-add_tail.ensures.own arc (subst (λ n. nth c.arcs-arcs.result.now n ≡ Some arc) (Contains-one (get_or c.args.numbers.now c.loop-number.number-index 0) k now) at))
    (Contains-append_cases (take c.loop-number.number-index c.args.numbers.now) (get_or c.args.numbers.now c.loop-number.number-index 0 ∷ []) k (subst (λ (l : List ℕ). Contains l k) (take_more c.args.numbers.now c.loop-number.number-index 0 (omega (arith, c.loop-number-test.true))) among))

pub returns : goal.returns
returns c k arc among at =
    let all : take c.loop-number.number-index c.args.numbers.now ≡ c.args.numbers.now = take_all c.loop-number.number-index c.args.numbers.now (omega (arith, c.loop-number-test.false)) in
    c.loop-number.invariant k arc (subst (λ (l : List ℕ). Contains l k) (sym all) among) (subst (λ (arcs : List RoadArc). nth arcs k ≡ Some arc) (sym c.arcs-arcs.ensures.value) at)
