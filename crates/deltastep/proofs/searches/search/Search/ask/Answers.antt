use Rattle.std.proofs.Common.{◌≡◌, ℕ, ◌/◌, ◌<◌, ◌≤◌, ◌^◌, List, All, length, sym, subst, ◌∙◌, ap, Option, unwrap_or, Result, Ok, Err, OnOk, arith}
use Rattle.snapshot.specs.Groups.{Groups}
use Rattle.relax.specs.Requests.{requests_of}
use Rattle.snapshot.specs.declared.legs.Part.{Part}
use Rattle.deltastep.proofs.Relaxing.{nodes_in_range, values_below, heads_within, sums_above, sums_fit}
use Rattle.std.proofs.lemmas.List.Elements.{All-filter}
use Rattle.deltastep.specs.Search.{MeetsRequests, requests_by}
use Rattle.deltastep.specs.Sifting.{lowers, sifted}
use Rattle.deltastep.proofs.Sifted.{MeetsRequests-sifted}
use Rattle.deltastep.proofs.Phases.{requests_of_one}
use Rattle.deltastep.proofs.searches.search.Search.ask.Given.{Over}
use Rattle.deltastep.proofs.searches.search.Search.ask.Goals as goal
use Rattle.deltastep.proofs.searches.search.Search.ask.Goals.{After-legs}

pub requests-requires-clause-nodes : goal.requests-requires-clause-nodes
requests-requires-clause-nodes g c = nodes_in_range c.args.snapshot.now c.args.nodes.now (g.F.Frontier.tentative c.args.self.now.frontier) (g.F.Frontier.entries c.args.self.now.frontier) c.args.bucket c.requires.search c.args.snapshot.now.delta c.requires.nodes

pub requests-requires-clause-values : goal.requests-requires-clause-values
requests-requires-clause-values g c =
    values_below c.args.snapshot.now c.args.nodes.now (g.F.Frontier.tentative c.args.self.now.frontier) (g.F.Frontier.entries c.args.self.now.frontier) c.args.bucket c.requires.search c.args.snapshot.now.delta c.requires.nodes (subst (λ n. n ≤ 2 ^ 56) c.requires.top c.requires.small)

-- what is left of the list that the team made
sifted_is : (groups : Groups) (nodes : List ℕ) (part : Part) (top : ℕ) (t : List (Option ℕ)) (made left lent : List (ℕ × ℕ)) → lent ≡ left → left ≡ sifted top t made → made ≡ requests_of groups nodes t part → lent ≡ sifted top t (requests_of groups nodes t part)
sifted_is groups nodes part top t made left lent e f e' = e ∙ (f ∙ ap (sifted top t) e')

pub sift-requires : goal.sift-requires
sift-requires g c =
    record { nodes = rw (c.in_ok-requests.ensures.requests, c.requires.search.places) (heads_within c.args.snapshot.now c.requires.grouped c.args.nodes.now (g.F.Frontier.tentative c.args.self.now.frontier) c.args.part) }

pub meet-requires-clause-nodes : goal.meet-requires-clause-nodes
meet-requires-clause-nodes g c =
    let t = g.F.Frontier.tentative c.args.self.now.frontier in
    let is = sifted_is c.args.snapshot.now c.args.nodes.now c.args.part c.args.top t _ _ _ c.deref.ensures.value c.in_ok-sift.ensures.sifted c.in_ok-requests.ensures.requests in
    let P : ℕ × ℕ → Type 0 = λ (r : ℕ × ℕ). (1 ≤ r.0) × (r.0 < length (g.F.Frontier.tentative c.args.self.now.frontier)) in
    subst (λ (rs : List (ℕ × ℕ)). All P rs) (sym is) (All-filter (lowers c.args.top (g.F.Frontier.tentative c.args.self.now.frontier)) P (requests_of c.args.snapshot.now c.args.nodes.now (g.F.Frontier.tentative c.args.self.now.frontier) c.args.part) (rw c.requires.search.places (heads_within c.args.snapshot.now c.requires.grouped c.args.nodes.now (g.F.Frontier.tentative c.args.self.now.frontier) c.args.part)))

pub meet-requires-clause-fits : goal.meet-requires-clause-fits
meet-requires-clause-fits g c =
    let t = g.F.Frontier.tentative c.args.self.now.frontier in
    let is = sifted_is c.args.snapshot.now c.args.nodes.now c.args.part c.args.top t _ _ _ c.deref.ensures.value c.in_ok-sift.ensures.sifted c.in_ok-requests.ensures.requests in
    let P : ℕ × ℕ → Type 0 = λ (r : ℕ × ℕ). g.F.Frontier.accepts c.args.self.now.frontier r.1 in
    subst (λ (rs : List (ℕ × ℕ)). All P rs) (sym is) (All-filter (lowers c.args.top (g.F.Frontier.tentative c.args.self.now.frontier)) P (requests_of c.args.snapshot.now c.args.nodes.now (g.F.Frontier.tentative c.args.self.now.frontier) c.args.part) (sums_fit c.args.snapshot.now c.requires.grouped c.args.nodes.now (g.F.Frontier.tentative c.args.self.now.frontier) c.args.part (g.F.Frontier.accepts c.args.self.now.frontier) c.args.bucket c.requires.nodes c.requires.window))

pub meet-requires-clause-above : goal.meet-requires-clause-above
meet-requires-clause-above g c =
    let t = g.F.Frontier.tentative c.args.self.now.frontier in
    let is = sifted_is c.args.snapshot.now c.args.nodes.now c.args.part c.args.top t _ _ _ c.deref.ensures.value c.in_ok-sift.ensures.sifted c.in_ok-requests.ensures.requests in
    let P : ℕ × ℕ → Type 0 = λ (r : ℕ × ℕ). c.args.bucket ≤ r.1 / g.F.Frontier.width c.args.self.now.frontier in
    subst (λ (rs : List (ℕ × ℕ)). All P rs) (sym is) (All-filter (lowers c.args.top (g.F.Frontier.tentative c.args.self.now.frontier)) P (requests_of c.args.snapshot.now c.args.nodes.now (g.F.Frontier.tentative c.args.self.now.frontier) c.args.part) (subst (λ w. All (λ (r : ℕ × ℕ). c.args.bucket ≤ r.1 / w) (requests_of c.args.snapshot.now c.args.nodes.now (g.F.Frontier.tentative c.args.self.now.frontier) c.args.part)) (sym c.requires.width) (sums_above c.args.snapshot.now c.requires.grouped c.args.nodes.now (g.F.Frontier.tentative c.args.self.now.frontier) c.args.part c.args.bucket c.requires.nodes)))

on_ok : {A E : Type 0} (r : Result A E) (P Q : Type 0) → (P → Q) → OnOk r P → OnOk r Q
on_ok (Ok x) P Q f h = f h
on_ok (Err x) P Q f h = tt

pub returns-clause-met : goal.returns-clause-met
returns-clause-met g c =
    let E = g.F.Frontier.entries in
    let t = g.F.Frontier.tentative c.args.self.now.frontier in
    let requests = requests_of c.args.snapshot.now c.args.nodes.now (g.F.Frontier.tentative c.args.self.now.frontier) c.args.part in
    let is = sifted_is c.args.snapshot.now c.args.nodes.now c.args.part c.args.top t _ _ _ c.deref.ensures.value c.in_ok-sift.ensures.sifted c.in_ok-requests.ensures.requests in
    let T' = g.F.Frontier.tentative c.meet.new.self.frontier in
    let From : List (ℕ × ℕ) → Type 0 = λ rs. MeetsRequests c.args.top rs (g.F.Frontier.tentative c.args.self.now.frontier) (g.F.Frontier.entries c.args.self.now.frontier) (g.F.Frontier.tentative c.meet.new.self.frontier) (g.F.Frontier.entries c.meet.new.self.frontier) in
    on_ok c.meet.result (From c.deref.result.now) (From requests)
    (λ met. MeetsRequests-sifted c.args.top requests t (E c.args.self.now.frontier) T' (E c.meet.new.self.frontier) (subst From is met)) c.meet.ensures.met

-- of one node alone
one_is : (g : Over) (c : After-legs g) → requests_by c.unwrap_or-value.result c.legs.result.now ≡ requests_of c.args.snapshot.now c.args.nodes.now (g.F.Frontier.tentative c.args.self.now.frontier) c.args.part
one_is g c = requests_of_one c.args.snapshot.now c.args.nodes.now (g.F.Frontier.tentative c.args.self.now.frontier) c.args.part c.unwrap_or-value.result c.legs.result.now (omega (arith, c.in-len1.len_at_least)) (omega (arith, c.in-len1.len_below)) (c.unwrap_or-value.ensures ∙ ap (λ (o : Option ℕ). unwrap_or o 0) c.value.ensures.value) c.legs.ensures.value

pub value-requires : goal.value-requires
value-requires g c =
    let range = nodes_in_range c.args.snapshot.now c.args.nodes.now (g.F.Frontier.tentative c.args.self.now.frontier) (g.F.Frontier.entries c.args.self.now.frontier) c.args.bucket c.requires.search c.args.snapshot.now.delta c.requires.nodes 0 0 (omega (arith, c.in-len1.len_at_least)) in
    record { node = (range.0, omega (arith, range.1, c.requires.search.places)) }

pub meet_legs-requires-clause-nodes : goal.meet_legs-requires-clause-nodes
meet_legs-requires-clause-nodes g c =
    let P : List (ℕ × ℕ) → Type 0 = λ rs. All (λ (r : ℕ × ℕ). (1 ≤ r.0) × (r.0 < length (g.F.Frontier.tentative c.args.self.now.frontier))) rs in
    subst P (sym (one_is g (goal.at.meet_legs-requires-clause-nodes g c).After-legs)) (rw c.requires.search.places (heads_within c.args.snapshot.now c.requires.grouped c.args.nodes.now (g.F.Frontier.tentative c.args.self.now.frontier) c.args.part))

pub meet_legs-requires-clause-fits : goal.meet_legs-requires-clause-fits
meet_legs-requires-clause-fits g c =
    let P : List (ℕ × ℕ) → Type 0 = λ rs. All (λ (r : ℕ × ℕ). g.F.Frontier.accepts c.args.self.now.frontier r.1) rs in
    subst P (sym (one_is g (goal.at.meet_legs-requires-clause-fits g c).After-legs)) (sums_fit c.args.snapshot.now c.requires.grouped c.args.nodes.now (g.F.Frontier.tentative c.args.self.now.frontier) c.args.part (g.F.Frontier.accepts c.args.self.now.frontier) c.args.bucket c.requires.nodes c.requires.window)

pub meet_legs-requires-clause-above : goal.meet_legs-requires-clause-above
meet_legs-requires-clause-above g c =
    let P : List (ℕ × ℕ) → ℕ → Type 0 = λ rs width. All (λ (r : ℕ × ℕ). c.args.bucket ≤ r.1 / width) rs in
    subst (λ width. P (requests_by c.unwrap_or-value.result c.legs.result.now) width) (sym c.requires.width)
    (subst (λ rs. P rs c.args.snapshot.now.delta) (sym (one_is g (goal.at.meet_legs-requires-clause-above g c).After-legs)) (sums_above c.args.snapshot.now c.requires.grouped c.args.nodes.now (g.F.Frontier.tentative c.args.self.now.frontier) c.args.part c.args.bucket c.requires.nodes))
