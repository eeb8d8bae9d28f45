use Rattle.std.proofs.Common.{ℕ, ◌*◌, ◌<◌, ◌≤◌, ◌^◌, Contains, List, get_or, inl, inr, sym, subst, ◌∙◌, arith}
use Rattle.std.proofs.lemmas.List.Elements.{Contains-get_or}
use Rattle.relax.specs.Values.{value_or}
use Rattle.frontier.specs.Keyed.{StandsAt, TakesBucket}
use Rattle.frontier.proofs.Keying.{TakesBucket-next, nothing_stands}
use Rattle.deltastep.specs.declared.questions.guided.KeyedSearch.{KeyedSearch}
use Rattle.deltastep.specs.Search.{top_of}
use Rattle.deltastep.specs.Guided.{HasDone, IsGuided, IsStart, IsUnderWayTo, stands_in}
use Rattle.deltastep.proofs.Guiding.{HasDone-kept, IsBest-final, IsDone-taken, IsGuided-taken, some_entry, starts_at, under_way, value_at_most}
use Rattle.deltastep.proofs.questions.guided.KeyedSearch.settle_guided.Given.{Over}
use Rattle.deltastep.proofs.questions.guided.KeyedSearch.settle_guided.Goals as goal
use Rattle.deltastep.proofs.questions.guided.KeyedSearch.settle_guided.Goals.{In-Some}

takes : (g : Over) (c : In-Some g) → TakesBucket (stands_in c.buckets.self.ring) (stands_in c.take.new.self) c.in-Some.bucket c.take.new.entries.items
takes g c =
    let s = c.buckets.self.ring in
    let n = c.take.new.self in
    subst (λ l. TakesBucket (stands_in s) (StandsAt l n.lists.items) c.in-Some.bucket c.take.new.entries.items) (sym c.in-Some.ensures.last) (TakesBucket-next s.last c.in-Some.bucket s.lists.items n.lists.items c.take.new.entries.items c.take.ensures.size c.in-Some.ensures.taken)

guided : (g : Over) (c : In-Some g) → IsUnderWayTo c.args.snapshot.now c.requires.state.0 (g.G.Guide.target c.args.guide.now) c.buckets.self
guided g c = c.buckets.invariant.state c.requires.state.0 c.requires.state.1

-- the search once the bucket is taken
abbrev mid : (g : Over) (c : In-Some g) → KeyedSearch
mid g c = record { tentative = c.buckets.self.tentative; ring = c.take.new.self }

mid_guided : (g : Over) (c : In-Some g) (source : ℕ) → IsUnderWayTo c.args.snapshot.now source (g.G.Guide.target c.args.guide.now) c.buckets.self → IsGuided c.args.snapshot.now source (g.G.Guide.target c.args.guide.now) c.take.new.self.delta c.buckets.self.tentative (stands_in c.take.new.self)
mid_guided g c source h =
    let groups = c.args.snapshot.now in
    let target = g.G.Guide.target c.args.guide.now in
    let s = c.buckets.self in
    subst (λ w. IsGuided groups source target w s.tentative (stands_in c.take.new.self)) (sym c.take.ensures.width) (IsGuided-taken groups target s.ring.delta s.tentative (stands_in s.ring) (stands_in c.take.new.self) c.in-Some.bucket c.take.new.entries.items (takes g c) source h)

small : (g : Over) (c : In-Some g) → c.in-Some.bucket * c.from-delta.result < 2 ^ 64
small g c =
    let e = some_entry c.take.new.entries.items c.in-Some.ensures.taken.some_entry in
    subst (λ w. c.in-Some.bucket * w < 2 ^ 64) (sym c.buckets.invariant.width) ((guided g c).small c.in-Some.bucket e.0 (((takes g c).all e.0).0 e.1))

pub overflow_mul-start : goal.overflow_mul-start
overflow_mul-start g c = omega (arith, small g (goal.at.overflow_mul-start g c).In-Some)

pub returns-then-is_at_most-clause-best : goal.returns-then-is_at_most-clause-best
returns-then-is_at_most-clause-best g c =
    let here = (goal.at.returns-then-is_at_most-clause-best g c).In-Some in
    let groups = c.args.snapshot.now in
    let target = g.G.Guide.target c.args.guide.now in
    let s = c.buckets.self in
    let low : value_or (top_of groups) s.tentative c.args.target ≤ c.in-Some.bucket * c.from-delta.result = value_at_most groups s.tentative c.args.target (c.in-Some.bucket * c.from-delta.result) c.is_at_most.result c.is_at_most.ensures c.if-is_at_most.true in
    let low' : value_or (top_of groups) s.tentative target ≤ c.in-Some.bucket * s.ring.delta = subst (λ w. value_or (top_of groups) s.tentative target ≤ c.in-Some.bucket * w) c.buckets.invariant.width (subst (λ v. value_or (top_of groups) s.tentative v ≤ c.in-Some.bucket * c.from-delta.result) (sym c.requires.leads) low) in
    IsBest-final groups c.requires.state.0 target s.ring.delta s.tentative (stands_in s.ring) (guided g here) c.buckets.invariant.done (λ d e h. omega (arith, low', starts_at groups target s.ring.delta s.tentative (stands_in s.ring) (stands_in c.take.new.self) c.in-Some.bucket c.take.new.entries.items (takes g here) d e h))

pub end_of-end-requires-clause-small : goal.end_of-end-requires-clause-small
end_of-end-requires-clause-small g c = small g (goal.at.end_of-end-requires-clause-small g c).In-Some

pub relax_all-requires-clause-state : goal.relax_all-requires-clause-state
relax_all-requires-clause-state g c =
    let here = (goal.at.relax_all-requires-clause-state g c).In-Some in
    (c.requires.state.0, mid_guided g here c.requires.state.0 (guided g here))

pub relax_all-requires-clause-nodes : goal.relax_all-requires-clause-nodes
relax_all-requires-clause-nodes g c k d lt =
    let here = (goal.at.relax_all-requires-clause-nodes g c).In-Some in
    let e = get_or c.deref.result.now k d in
    let among : Contains c.take.new.entries.items e = subst (λ (l : List (ℕ × ℕ)). Contains l e) c.deref.ensures.value (Contains-get_or c.deref.result.now k d lt) in
    (guided g here).nodes c.in-Some.bucket e (((takes g here).all e).0 among)

pub relax_all-requires-clause-keys : goal.relax_all-requires-clause-keys
relax_all-requires-clause-keys g c k d lt =
    let here = (goal.at.relax_all-requires-clause-keys g c).In-Some in
    let e = get_or c.deref.result.now k d in
    let among : Contains c.take.new.entries.items e = subst (λ (l : List (ℕ × ℕ)). Contains l e) c.deref.ensures.value (Contains-get_or c.deref.result.now k d lt) in
    subst (λ w. IsStart c.args.snapshot.now (g.G.Guide.target c.args.guide.now) e.0 e.1 (c.in-Some.bucket * w)) (sym c.buckets.invariant.width) ((guided g here).keys c.in-Some.bucket e (((takes g here).all e).0 among))

pub buckets-preserved : goal.buckets-preserved
buckets-preserved g c =
    let here = (goal.at.buckets-preserved g c).In-Some in
    let groups = c.args.snapshot.now in
    let target = g.G.Guide.target c.args.guide.now in
    let s = c.buckets.self in
    let new = c.relax_all.new.self in
    let next = c.in_ok-relax_all.ensures in
    let keeps = c.relax_all.ensures.keeps in
    record {
      none = c.clear-in-Some.ensures.items;
      state = λ source h. under_way groups target (c.in-Some.bucket * c.from-delta.result) (mid g here) new keeps next.goes_on source (mid_guided g here source (c.buckets.invariant.state source h));
      done = λ part u. elim (IsDone-taken groups target s.ring.delta s.tentative (stands_in s.ring) (stands_in c.take.new.self) c.in-Some.bucket c.take.new.entries.items (takes g here) part u (c.buckets.invariant.done part u)) as (λ _. HasDone groups part new u) [
        | inl (x, has, among) ↦ elim (next.goes_on.moves u) as (λ _. HasDone groups part new u) [
          | inl same ↦ next.done part (u, x) (subst (λ (l : List (ℕ × ℕ)). Contains l (u, x)) (sym c.deref.ensures.value) among) (same ∙ has)
          | inr live ↦ inl live
        ]
        | inr done ↦ HasDone-kept groups target (c.in-Some.bucket * c.from-delta.result) (mid g here) new keeps next.goes_on part u done
      ];
      width = c.buckets.invariant.width ∙ sym (keeps.width ∙ c.take.ensures.width);
      size = c.buckets.invariant.size ∙ sym (keeps.size ∙ c.take.ensures.size);
    }

pub returns-clause-best : goal.returns-clause-best
returns-clause-best g c =
    let s = c.buckets.self in
    IsBest-final c.args.snapshot.now c.requires.state.0 (g.G.Guide.target c.args.guide.now) s.ring.delta s.tentative (stands_in s.ring) (c.buckets.invariant.state c.requires.state.0 c.requires.state.1) c.buckets.invariant.done (λ b e h. absurd (nothing_stands s.ring.last s.ring.lists.items c.in_default.ensures.taken b e h))
