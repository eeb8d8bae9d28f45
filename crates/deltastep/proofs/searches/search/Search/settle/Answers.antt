use Rattle.std.proofs.Common.{◌≡◌, ℕ, List, [], Contains, length, subst, sym, ◌∙◌, eqb, eqb-true}
use Rattle.std.specs.List.{IsDistinct}
use Rattle.relax.specs.Requests.{requests_of}
use Rattle.std.proofs.lemmas.List.{nil_from_length}
use Rattle.deltastep.specs.Search.{EmptiesBucket, MeetsRequests, top_of}
use Rattle.snapshot.specs.Groups.{legs_of}
use Rattle.snapshot.specs.declared.legs.Part.TheVariants.{Light, Heavy}
use Rattle.frontier.proofs.Flags.{memory_is}
use Rattle.deltastep.proofs.Phases.{on_true, EmptiesBucket-relaxed, EmptiesBucket-taken}
use Rattle.deltastep.proofs.searches.search.Search.settle.Goals as goal

pub relax-requires-2-clause-nodes : goal.relax-requires-2-clause-nodes
relax-requires-2-clause-nodes g c u h = c.in_ok-empty.ensures.emptied.nodes u (subst (λ (l : List ℕ). Contains l u) c.nodes-2.ensures.value h)

pub relax-requires-2-clause-once : goal.relax-requires-2-clause-once
relax-requires-2-clause-once g c _ = subst (λ (l : List ℕ). IsDistinct eqb l) (sym c.nodes-2.ensures.value) c.nodes-2.ensures.once

pub returns-clause-settled : goal.returns-clause-settled
returns-clause-settled g c =
    let relaxed = c.in_ok-relax-2.ensures in
    let met = subst (λ nodes. MeetsRequests (top_of c.args.snapshot.now) (requests_of c.args.snapshot.now nodes (g.F.Frontier.tentative c.empty.new.self.frontier) Heavy) (g.F.Frontier.tentative c.empty.new.self.frontier) (g.F.Frontier.entries c.empty.new.self.frontier) (g.F.Frontier.tentative c.relax-2.new.self.frontier) (g.F.Frontier.entries c.relax-2.new.self.frontier)) c.nodes-2.ensures.value relaxed.met in
    EmptiesBucket-relaxed c.args.snapshot.now c.args.bucket c.empty.new.remembered.nodes (g.F.Frontier.tentative c.args.self.now.frontier) (g.F.Frontier.tentative c.empty.new.self.frontier) (g.F.Frontier.entries c.empty.new.self.frontier) (g.F.Frontier.tentative c.relax-2.new.self.frontier) (g.F.Frontier.entries c.relax-2.new.self.frontier) relaxed.grouped c.in_ok-empty.ensures.emptied met relaxed.search relaxed.reached

pub returns-clause-none : goal.returns-clause-none
returns-clause-none g c = memory_is c.clear.new.self _ _ (c.clear.ensures.limit ∙ c.in_ok-empty.ensures.limit) c.clear.ensures.none

-- where none is remembered, none owes a heavy leg
none_of : (nodes lent : List ℕ) → lent ≡ nodes → length lent ≡ 0 → nodes ≡ []
none_of nodes lent e none = sym e ∙ nil_from_length lent none

pub returns-then-is_empty-clause-settled : goal.returns-then-is_empty-clause-settled
returns-then-is_empty-clause-settled g c =
    let none : c.empty.new.remembered.nodes ≡ [] = none_of c.empty.new.remembered.nodes c.nodes.result.now c.nodes.ensures.value (eqb-true (length c.nodes.result.now) 0 (sym c.is_empty.ensures ∙ c.if-is_empty.true)) in
    subst (λ (l : List ℕ). EmptiesBucket c.args.snapshot.now c.args.bucket (g.F.Frontier.tentative c.args.self.now.frontier) (g.F.Frontier.tentative c.empty.new.self.frontier) (g.F.Frontier.entries c.empty.new.self.frontier) l) none c.in_ok-empty.ensures.emptied

pub returns-then-is_empty-clause-none : goal.returns-then-is_empty-clause-none
returns-then-is_empty-clause-none g c =
    let none : c.empty.new.remembered.nodes ≡ [] = none_of c.empty.new.remembered.nodes c.nodes.result.now c.nodes.ensures.value (eqb-true (length c.nodes.result.now) 0 (sym c.is_empty.ensures ∙ c.if-is_empty.true)) in
    memory_is c.empty.new.remembered _ _ c.in_ok-empty.ensures.limit none

-- a bucket of one node without light legs
pub relax-requires-clause-nodes : goal.relax-requires-clause-nodes
relax-requires-clause-nodes g c u h = c.requires.taken u (subst (λ (l : List ℕ). Contains l u) c.deref-then-is_alone.ensures.value h)

pub relax-requires-clause-once : goal.relax-requires-clause-once
relax-requires-clause-once g c _ = subst (λ (l : List ℕ). IsDistinct eqb l) (c.deref.ensures.value ∙ sym c.deref-then-is_alone.ensures.value) (on_true c.is_alone.result _ c.if-is_alone.true c.is_alone.ensures.once)

pub returns-then-is_alone-clause-settled : goal.returns-then-is_alone-clause-settled
returns-then-is_alone-clause-settled g c =
    let groups = c.args.snapshot.now in
    let relaxed = c.in_ok-relax.ensures in
    let nodes = c.args.taken.now.items in
    let met = subst (λ nodes. MeetsRequests (top_of groups) (requests_of groups nodes (g.F.Frontier.tentative c.args.self.now.frontier) Heavy) (g.F.Frontier.tentative c.args.self.now.frontier) (g.F.Frontier.entries c.args.self.now.frontier) (g.F.Frontier.tentative c.relax.new.self.frontier) (g.F.Frontier.entries c.relax.new.self.frontier)) c.deref-then-is_alone.ensures.value relaxed.met in
    let none : (u : ℕ) → Contains nodes u → legs_of groups Light u ≡ [] = λ u h. on_true c.is_alone.result _ c.if-is_alone.true c.is_alone.ensures.light u (subst (λ (l : List ℕ). Contains l u) (sym c.deref.ensures.value) h) in
    let emptied = EmptiesBucket-taken groups c.args.bucket nodes (g.F.Frontier.tentative c.args.self.now.frontier) (g.F.Frontier.entries c.args.self.now.frontier) none c.requires.search c.requires.light c.requires.heavy c.requires.taken c.requires.emptied in
    EmptiesBucket-relaxed groups c.args.bucket nodes (g.F.Frontier.tentative c.args.self.now.frontier) (g.F.Frontier.tentative c.args.self.now.frontier) (g.F.Frontier.entries c.args.self.now.frontier) (g.F.Frontier.tentative c.relax.new.self.frontier) (g.F.Frontier.entries c.relax.new.self.frontier) relaxed.grouped emptied met relaxed.search relaxed.reached
