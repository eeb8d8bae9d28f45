use Rattle.std.proofs.Common.{◌+◌, ◌<◌, ◌≤◌, take, length, get_or, Contains, List, sym, subst, ap, ◌∙◌, arith}
use Rattle.std.proofs.lemmas.List.{take_more, take_all}
use Rattle.std.proofs.lemmas.List.Elements.{Contains-get_or}
use Rattle.frontier.specs.Entries.{entry_count}
use Rattle.snapshot.specs.Groups.{legs_of}
use Rattle.snapshot.specs.declared.legs.Leg.{Leg}
use Rattle.deltastep.specs.Guided.{stands_in}
use Rattle.deltastep.proofs.Guiding.{HasMet, HasMet-more, IsDone-met, KeepsWindow-then, fits_kept, value_of_key, known_below}
use Rattle.deltastep.proofs.questions.guided.KeyedSearch.relax_part.Goals as goal

pub lower_to-requires-clause-node : goal.lower_to-requires-clause-node
lower_to-requires-clause-node g c =
    let among : Contains (legs_of c.args.snapshot.now c.args.part c.args.node) (get_or c.legs-leg-items.result.now c.loop-leg.leg-index (record { head = 0; length = 0 })) = subst (λ (ls : List Leg). Contains ls (get_or c.legs-leg-items.result.now c.loop-leg.leg-index (record { head = 0; length = 0 }))) c.legs-leg-items.ensures.value (Contains-get_or c.legs-leg-items.result.now c.loop-leg.leg-index (record { head = 0; length = 0 }) (omega arith)) in
    let guided = c.loop-leg.invariant.met.goes_on.state c.requires.state.0 c.requires.state.1 in
    (c.top-top.ensures.grouped.low c.args.part c.args.node _ among, omega (arith, c.top-top.ensures.grouped.high c.args.part c.args.node _ among, guided.places))

pub lower_to-requires-clause-fits : goal.lower_to-requires-clause-fits
lower_to-requires-clause-fits g c = fits_kept c.args.self.now.ring c.loop-leg.self.ring c.args.start c.args.end c.loop-leg.invariant.keeps c.requires.fits

pub loop-leg-preserved : goal.loop-leg-preserved
loop-leg-preserved g c =
    let groups = c.args.snapshot.now in
    let target = g.G.Guide.target c.args.guide.now in
    let fn = c.args.self.now in
    let new = c.lower_to.new.self in
    let legs = c.legs-leg-items.result.now in
    let i = c.loop-leg.leg-index in
    let lt : i < length legs = omega arith in
    let leg = get_or legs i (record { head = 0; length = 0 }) in
    let among : Contains (legs_of groups c.args.part c.args.node) leg = subst (λ (ls : List Leg). Contains ls leg) c.legs-leg-items.ensures.value (Contains-get_or legs i (record { head = 0; length = 0 }) lt) in
    let guided = c.loop-leg.invariant.met.goes_on.state c.requires.state.0 c.requires.state.1 in
    let has = value_of_key groups target c.args.node c.args.start fn.tentative c.get.result c.unwrap_or-value.result c.requires.key c.get.ensures.value c.unwrap_or-value.ensures in
    let low : 1 ≤ leg.head = c.top-top.ensures.grouped.low c.args.part c.args.node leg among in
    let high : leg.head ≤ groups.nodes = c.top-top.ensures.grouped.high c.args.part c.args.node leg among in
    record {
      met =
          subst (λ (ls : List Leg). HasMet groups target fn.ring.delta c.args.start c.args.node c.unwrap_or-value.result ls fn.tentative (stands_in fn.ring) (entry_count fn.ring.lists.items) new.tentative (stands_in new.ring) (entry_count new.ring.lists.items)) (sym (take_more legs i (record { head = 0; length = 0 }) lt))
          (HasMet-more groups c.top-top.ensures.grouped target fn.ring.delta c.args.start fn.tentative (stands_in fn.ring) (entry_count fn.ring.lists.items) c.args.part c.args.node c.unwrap_or-value.result has c.requires.key leg among (c.unwrap_or-value.result + c.from.result) (ap (λ n. c.unwrap_or-value.result + n) c.from.ensures) (take i legs) c.loop-leg.self new c.loop-leg.invariant.keeps.width c.loop-leg.invariant.met
          (omega (arith, high, guided.places)) c.args.end (omega (arith, c.ranges.end.fits)) c.in_ok-lower_to.field-0
          (rw c.top-top.ensures.value at c.in_ok-lower_to.ensures.lowered) c.in_ok-lower_to.ensures.changed c.in_ok-lower_to.ensures.to
          (known_below (g.G.Guide.knows c.args.guide.now) groups target c.args.start leg.head (c.unwrap_or-value.result + c.from.result) c.requires.knows c.top-top.ensures.grouped low high c.in_ok-lower_to.field-0 c.in_ok-lower_to.ensures.below));
      keeps = KeepsWindow-then fn.ring c.loop-leg.self.ring new.ring c.loop-leg.invariant.keeps c.lower_to.ensures.keeps;
    }

pub returns-clause-done : goal.returns-clause-done
returns-clause-done g c =
    let fn = c.args.self.now in
    let s = c.loop-leg.self in
    IsDone-met c.args.snapshot.now (g.G.Guide.target c.args.guide.now) fn.ring.delta c.args.start c.args.node c.unwrap_or-value.result c.args.part _ fn.tentative (stands_in fn.ring) (entry_count fn.ring.lists.items) s.tentative (stands_in s.ring) (entry_count s.ring.lists.items) c.loop-leg.invariant.met (take_all c.loop-leg.leg-index c.legs-leg-items.result.now (omega arith) ∙ c.legs-leg-items.ensures.value)
