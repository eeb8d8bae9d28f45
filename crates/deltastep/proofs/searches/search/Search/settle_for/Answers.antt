use Rattle.std.proofs.Common.{◌∙◌, ℕ, ◌/◌, ◌≤◌, sym, subst}
use Rattle.deltastep.specs.Search.{AreLater}
use Rattle.deltastep.proofs.Phases.{on_true}
use Rattle.deltastep.proofs.Ending.{beyond_later}
use Rattle.deltastep.proofs.searches.search.Search.settle_for.Goals as goal

pub is_enough-requires : goal.is_enough-requires
is_enough-requires g c =
    let between = c.in_ok-bucket.ensures.state c.requires.state.0 (c.buckets.invariant.state c.requires.state.0 c.requires.state.1) in
    record { suits = subst (λ (n : ℕ). g.A.Question.suits c.args.asked.now n) (sym between.search.places) c.requires.suits }

pub returns-then-is_enough-clause-beyond : goal.returns-then-is_enough-clause-beyond
returns-then-is_enough-clause-beyond g c =
    let queue = g.F.Frontier.entries c.relax_next.new.self.frontier in
    let later : AreLater c.args.snapshot.now.delta c.in-Some.bucket queue = on_true c.in-Some.is_settled (AreLater c.args.snapshot.now.delta c.in-Some.bucket queue) c.if-is_settled.true (rw c.in-Some.is at c.in_ok-bucket.ensures.over) in
    beyond_later c.args.snapshot.now.delta c.in-Some.bucket c.last_of-end.result queue c.delta.ensures.grouped.delta (subst (λ (d : ℕ). c.last_of-end.result / d ≤ c.in-Some.bucket) (c.from-delta.ensures ∙ c.delta.ensures.value) c.last_of-end.ensures) later

pub returns-clause-beyond : goal.returns-clause-beyond
returns-clause-beyond g c = rw c.in_default.is at c.in_ok-bucket.ensures.over
