use Rattle.std.proofs.Common.{◌<◌, ℕ, [], subst, lt_of_le_of_lt}
use Rattle.frontier.specs.Frontier.{TakesAny}
use Rattle.deltastep.specs.Search.{IsBetweenBuckets, top_of, weight}
use Rattle.snapshot.specs.declared.legs.Part.TheVariants.{Light, Heavy}
use Rattle.deltastep.proofs.Phases.{weight-taken}
use Rattle.deltastep.proofs.Relaxing.{IsSearch-taken, IsRelaxedBut-taken, AreInBucket-taken, IsBucketEmpty-taken}
use Rattle.deltastep.proofs.searches.search.Search.settle_next.Given.{Over}
use Rattle.deltastep.proofs.searches.search.Search.settle_next.Goals as goal
use Rattle.deltastep.proofs.searches.search.Search.settle_next.Goals.{In-Some}

takes : (g : Over) (c : In-Some g) → TakesAny c.args.snapshot.now.delta (g.F.Frontier.entries c.args.self.now.frontier) c.in-Some.bucket c.take_bucket.new.taken.items (g.F.Frontier.entries c.take_bucket.new.self.frontier)
takes g c = rw c.in-Some.is at c.in_ok-bucket.ensures.taken

-- what is known of some source
state : (g : Over) (c : In-Some g) → (source : ℕ) × IsBetweenBuckets c.args.snapshot.now source (g.F.Frontier.tentative c.take_bucket.new.self.frontier) (g.F.Frontier.entries c.args.self.now.frontier)
state g c = (c.requires.state.0, rw c.take_bucket.ensures.tentative c.requires.state.1)

pub settle-requires-clause-search : goal.settle-requires-clause-search
settle-requires-clause-search g c =
    let here = (goal.at.settle-requires-clause-search g c).In-Some in
    IsSearch-taken c.args.snapshot.now (g.F.Frontier.tentative c.take_bucket.new.self.frontier) (g.F.Frontier.entries c.args.self.now.frontier) c.in-Some.bucket c.take_bucket.new.taken.items (g.F.Frontier.entries c.take_bucket.new.self.frontier) (takes g here) 0 (state g here).1.search

pub settle-requires-clause-light : goal.settle-requires-clause-light
settle-requires-clause-light g c =
    let here = (goal.at.settle-requires-clause-light g c).In-Some in
    IsRelaxedBut-taken c.args.snapshot.now (g.F.Frontier.tentative c.take_bucket.new.self.frontier) (g.F.Frontier.entries c.args.self.now.frontier) c.in-Some.bucket c.take_bucket.new.taken.items (g.F.Frontier.entries c.take_bucket.new.self.frontier) (takes g here) Light [] (state g here).1.light

pub settle-requires-clause-heavy : goal.settle-requires-clause-heavy
settle-requires-clause-heavy g c =
    let here = (goal.at.settle-requires-clause-heavy g c).In-Some in
    IsRelaxedBut-taken c.args.snapshot.now (g.F.Frontier.tentative c.take_bucket.new.self.frontier) (g.F.Frontier.entries c.args.self.now.frontier) c.in-Some.bucket c.take_bucket.new.taken.items (g.F.Frontier.entries c.take_bucket.new.self.frontier) (takes g here) Heavy [] (state g here).1.heavy

pub settle-requires-clause-taken : goal.settle-requires-clause-taken
settle-requires-clause-taken g c =
    let here = (goal.at.settle-requires-clause-taken g c).In-Some in
    AreInBucket-taken c.args.snapshot.now (g.F.Frontier.tentative c.take_bucket.new.self.frontier) (g.F.Frontier.entries c.args.self.now.frontier) c.in-Some.bucket c.take_bucket.new.taken.items (g.F.Frontier.entries c.take_bucket.new.self.frontier) (takes g here) 0 (state g here).1.search

pub settle-requires-clause-emptied : goal.settle-requires-clause-emptied
settle-requires-clause-emptied g c =
    let here = (goal.at.settle-requires-clause-emptied g c).In-Some in
    IsBucketEmpty-taken c.args.snapshot.now.delta c.in-Some.bucket (g.F.Frontier.entries c.args.self.now.frontier) c.take_bucket.new.taken.items (g.F.Frontier.entries c.take_bucket.new.self.frontier) (takes g here)

pub returns-clause-falls : goal.returns-clause-falls
returns-clause-falls g c =
    let here = (goal.at.returns-clause-falls g c).In-Some in
    let top = top_of c.args.snapshot.now in
    let E = g.F.Frontier.entries in
    subst (λ t. weight top (g.F.Frontier.tentative c.settle.new.self.frontier) (E c.settle.new.self.frontier) < weight top t (E c.args.self.now.frontier)) c.take_bucket.ensures.tentative (lt_of_le_of_lt c.in_ok-settle.ensures.weight (weight-taken _ _ _ (g.F.Frontier.tentative c.take_bucket.new.self.frontier) _ _ _ (takes g here)))
