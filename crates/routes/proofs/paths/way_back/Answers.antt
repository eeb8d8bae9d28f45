use Rattle.std.proofs.Common.{◌≡◌, ◌+◌, ◌*◌, ◌<◌, get_or, set, ◌++◌, [], ◌∷◌, ℕ, List, length, Bool, false, true, replicate, subst, ap, ◌∙◌, arith}
use Rattle.std.proofs.lemmas.Grind.{common_steps}
use Rattle.std.proofs.lemmas.List.{length_push}
use Rattle.roadnet.specs.Net.{IsArcAmong}
use Rattle.roadnet.proofs.Apart.{arc_among}
use Rattle.routes.specs.Paths.{IsNodeDone, AreLegsLooked}
use Rattle.routes.specs.declared.paths.Step.{Step}
use Rattle.routes.proofs.Backward.{IsAt, unmet, arcs_of, start_node, begun, taken, given_back, never_stuck, ended, unmet-set}
use Rattle.routes.proofs.paths.way_back.Goals as goal

pub index_mut-requires : goal.index_mut-requires
index_mut-requires g c = omega (arith, c.in_ok-met.ensures.len, c.nodes.ensures.value, c.requires.target.1)

pub loop-node-init : goal.loop-node-init
loop-node-init g c =
    let all : c.in_ok-met.met.items ≡ replicate (c.args.network.now.nodes + 1) false = c.in_ok-met.ensures.items_if_clones_equal (λ y e. e) ∙ ap (λ (n : ℕ). replicate (n + 1) false) c.nodes.ensures.value in
    let none : c.new-steps.result.items ≡ [] = c.new-steps.ensures.items in
    let at = begun c.args.network.now c.args.back.now (g.V.Known.values c.args.values.now) c.args.source c.args.target c.args.far c.nodes.ensures.network c.requires.target c.requires.there in
    rw (all, none) at

pub returns-in_default-clause-none : goal.returns-in_default-clause-none
returns-in_default-clause-none g c known =
    let empty : c.loop-node.steps.items ≡ [] = grind (arith, common_steps, c.in_default.ensures.items, c.in_default.ensures.len) in
    let done = subst (λ (met : List Bool). IsNodeDone c.args.network.now (g.V.Known.values c.args.values.now) met c.loop-node.node) c.deref.ensures.value c.in-None.ensures.none in
    never_stuck c.args.network.now c.args.back.now (g.V.Known.values c.args.values.now) c.args.source c.args.target c.args.far c.nodes.ensures.network c.requires.target c.requires.there c.loop-node.met.items c.loop-node.node c.loop-node.looked c.loop-node.steps.items
    c.loop-node.invariant empty c.loop-node-test.true done known

pub loop-node-preserved : goal.loop-node-preserved
loop-node-preserved g c =
    let last : c.loop-node.steps.items ≡ c.pop.new.self.items ++ c.in-Some-pop.step ∷ [] = c.in-Some-pop.ensures.items in
    let done = subst (λ (met : List Bool). IsNodeDone c.args.network.now (g.V.Known.values c.args.values.now) met c.loop-node.node) c.deref.ensures.value c.in-None.ensures.none in
    given_back c.args.network.now c.args.back.now (g.V.Known.values c.args.values.now) c.args.source c.args.target c.args.far c.nodes.ensures.network c.requires.target c.requires.there c.loop-node.met.items c.loop-node.node c.loop-node.looked c.pop.new.self.items c.in-Some-pop.step c.in-Some-arc.arc
    (subst (λ (steps : List Step). IsAt c.args.network.now c.args.back.now (g.V.Known.values c.args.values.now) c.args.source c.args.target c.args.far c.loop-node.met.items c.loop-node.node c.loop-node.looked steps) last c.loop-node.invariant) c.loop-node-test.true done (cc c.in-Some-arc.ensures)

pub index_mut-requires-in-Some : goal.index_mut-requires-in-Some
index_mut-requires-in-Some g c =
    let found = c.in-Some.found in
    let among : IsArcAmong c.args.network.now.nodes found.arc = arc_among c.args.network.now found.step.number found.arc c.nodes.ensures.network c.in-Some.ensures.tight.there in
    omega (arith, c.loop-node.met.ok.0, c.loop-node.invariant.path.places, among.tail_to)

-- a step more, and a node fewer that was not met
smaller : (met : List Bool) (v : ℕ) (steps longer : List Step) → v < length met → get_or met v false ≡ false → length longer ≡ length steps + 1 → 2 * unmet (set met v true) + length longer < 2 * unmet met + length steps
smaller met v steps longer within new one_more = omega (arith, unmet-set met v within new)

pub loop-node-smaller-in-Some : goal.loop-node-smaller-in-Some
loop-node-smaller-in-Some g c =
    let found = c.in-Some.found in
    let step : Step = found.step in
    let among : IsArcAmong c.args.network.now.nodes found.arc = arc_among c.args.network.now found.step.number found.arc c.nodes.ensures.network c.in-Some.ensures.tight.there in
    let within : found.arc.tail < length c.loop-node.met.items = omega (arith, c.loop-node.invariant.path.places, among.tail_to) in
    let new : get_or c.loop-node.met.items found.arc.tail false ≡ false = subst (λ (met : List Bool). get_or met found.arc.tail false ≡ false) c.deref.ensures.value c.in-Some.ensures.new in
    let one_more : c.push.new.self.items ≡ c.loop-node.steps.items ++ step ∷ [] = grind (arith, common_steps, c.push.ensures.items) in
    smaller c.loop-node.met.items found.arc.tail c.loop-node.steps.items c.push.new.self.items within new (ap (λ (l : List Step). length l) one_more ∙ length_push c.loop-node.steps.items step)

pub loop-node-preserved-in-Some : goal.loop-node-preserved-in-Some
loop-node-preserved-in-Some g c =
    let found = c.in-Some.found in
    let step : Step = found.step in
    let one_more : c.push.new.self.items ≡ c.loop-node.steps.items ++ step ∷ [] = grind (arith, common_steps, c.push.ensures.items) in
    let new : get_or c.loop-node.met.items found.arc.tail false ≡ false = subst (λ (met : List Bool). get_or met found.arc.tail false ≡ false) c.deref.ensures.value c.in-Some.ensures.new in
    let looked = subst (λ (met : List Bool). AreLegsLooked c.args.network.now c.args.back.now (g.V.Known.values c.args.values.now) met c.loop-node.node found.step.looked) c.deref.ensures.value c.in-Some.ensures.looked in
    let longer = taken c.args.network.now c.args.back.now (g.V.Known.values c.args.values.now) c.args.source c.args.target c.args.far c.nodes.ensures.network c.requires.target c.requires.there c.loop-node.met.items c.loop-node.node c.loop-node.looked c.loop-node.steps.items step found.arc
    c.loop-node.invariant c.loop-node-test.true c.in-Some.ensures.tight new looked in
    rw one_more longer

pub arc_from_new-requires-clause-node : goal.arc_from_new-requires-clause-node
arc_from_new-requires-clause-node g c =
    start_node c.args.network.now c.loop-node.node c.args.target (arcs_of c.loop-node.steps.items) c.nodes.ensures.network c.loop-node.invariant.path.walks

pub returns-clause-way : goal.returns-clause-way
returns-clause-way g c =
    ended c.args.network.now c.args.back.now (g.V.Known.values c.args.values.now) c.args.source c.args.target c.args.far c.nodes.ensures.network c.requires.target c.requires.there c.loop-node.met.items c.loop-node.node c.loop-node.looked c.loop-node.steps.items
    c.loop-node.invariant c.loop-node-test.false
