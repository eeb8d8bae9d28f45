use Rattle.std.proofs.Common.{◌<◌, ℕ, List, [], sym, subst, lt_of_le_of_lt}
use Rattle.frontier.specs.Frontier.{TakesAny}
use Rattle.deltastep.specs.Search.{AreInBucket, IsBetweenBuckets, IsRelaxedBut, top_of, weight}
use Rattle.snapshot.specs.declared.legs.Part.TheVariants.{Light, Heavy}
use Rattle.deltastep.proofs.Phases.{weight-taken}
use Rattle.deltastep.proofs.Relaxing.{IsSearch-taken, IsRelaxedBut-taken, AreInBucket-taken, IsBucketEmpty-taken}
use Rattle.deltastep.proofs.Taking.{AreLater-settled, IsSearch-first}
use Rattle.deltastep.proofs.searches.search.Search.relax_next.Given.{Over}
use Rattle.deltastep.proofs.searches.search.Search.relax_next.Goals as goal
use Rattle.deltastep.proofs.searches.search.Search.relax_next.Goals.{In-Some}

takes : (g : Over) (c : In-Some g) → TakesAny c.args.snapshot.now.delta (g.F.Frontier.entries c.args.self.now.frontier) c.in-Some.bucket c.take_bucket.new.taken.items (g.F.Frontier.entries c.take_bucket.new.self.frontier)
takes g c = rw c.in-Some.is at c.in_ok-bucket.ensures.taken

-- what is known of some source
state : (g : Over) (c : In-Some g) → (source : ℕ) × IsBetweenBuckets c.args.snapshot.now source (g.F.Frontier.tentative c.take_bucket.new.self.frontier) (g.F.Frontier.entries c.args.self.now.frontier)
state g c = (c.requires.state.0, rw c.take_bucket.ensures.tentative c.requires.state.1)

pub relax_taken-requires-clause-search : goal.relax_taken-requires-clause-search
relax_taken-requires-clause-search g c =
    let here = (goal.at.relax_taken-requires-clause-search g c).In-Some in
    IsSearch-taken c.args.snapshot.now (g.F.Frontier.tentative c.take_bucket.new.self.frontier) (g.F.Frontier.entries c.args.self.now.frontier) c.in-Some.bucket c.take_bucket.new.taken.items (g.F.Frontier.entries c.take_bucket.new.self.frontier) (takes g here) 0 (state g here).1.search

pub relax_taken-requires-clause-owed : goal.relax_taken-requires-clause-owed
relax_taken-requires-clause-owed g c part =
    let here = (goal.at.relax_taken-requires-clause-owed g c).In-Some in
    let groups = c.args.snapshot.now in
    let queue = g.F.Frontier.entries c.take_bucket.new.self.frontier in
    let owed : IsRelaxedBut groups part (g.F.Frontier.tentative c.take_bucket.new.self.frontier) queue c.take_bucket.new.taken.items =
    IsRelaxedBut-taken groups (g.F.Frontier.tentative c.take_bucket.new.self.frontier) (g.F.Frontier.entries c.args.self.now.frontier) c.in-Some.bucket c.take_bucket.new.taken.items queue (takes g here) part [] (elim part as (λ p. IsRelaxedBut groups p (g.F.Frontier.tentative c.take_bucket.new.self.frontier) (g.F.Frontier.entries c.args.self.now.frontier) []) [ Light ↦ (state g here).1.light | Heavy ↦ (state g here).1.heavy ]) in
    subst (λ (l : List ℕ). IsRelaxedBut groups part (g.F.Frontier.tentative c.take_bucket.new.self.frontier) queue l) (sym c.deref.ensures.value) owed

pub relax_taken-requires-clause-nodes : goal.relax_taken-requires-clause-nodes
relax_taken-requires-clause-nodes g c =
    let here = (goal.at.relax_taken-requires-clause-nodes g c).In-Some in
    let groups = c.args.snapshot.now in
    let within = AreInBucket-taken groups (g.F.Frontier.tentative c.take_bucket.new.self.frontier) (g.F.Frontier.entries c.args.self.now.frontier) c.in-Some.bucket c.take_bucket.new.taken.items (g.F.Frontier.entries c.take_bucket.new.self.frontier) (takes g here) 0 (state g here).1.search in
    subst (λ (l : List ℕ). AreInBucket (g.F.Frontier.tentative c.take_bucket.new.self.frontier) groups.delta c.in-Some.bucket l) (sym c.deref.ensures.value) within

pub returns-clause-falls : goal.returns-clause-falls
returns-clause-falls g c =
    let here = (goal.at.returns-clause-falls g c).In-Some in
    let top = top_of c.args.snapshot.now in
    let E = g.F.Frontier.entries in
    subst (λ t. weight top (g.F.Frontier.tentative c.relax_taken.new.self.frontier) (E c.relax_taken.new.self.frontier) < weight top t (E c.args.self.now.frontier)) c.take_bucket.ensures.tentative (lt_of_le_of_lt c.in_ok-came_back.ensures.weight (weight-taken _ _ _ (g.F.Frontier.tentative c.take_bucket.new.self.frontier) _ _ _ (takes g here)))

pub returns-clause-state : goal.returns-clause-state
returns-clause-state g c source between =
    let ensures = c.in_ok-came_back.ensures in
    record {
      search = IsSearch-first c.args.snapshot.now (g.F.Frontier.tentative c.relax_taken.new.self.frontier) (g.F.Frontier.entries c.relax_taken.new.self.frontier) c.in-Some.bucket ensures.search;
      reached = ensures.reached source (rw c.take_bucket.ensures.tentative between.reached);
      light = ensures.relaxed Light;
      heavy = ensures.relaxed Heavy;
    }

pub returns-clause-over : goal.returns-clause-over
returns-clause-over g c =
    let here = (goal.at.returns-clause-over g c).In-Some in
    let E = g.F.Frontier.entries in
    let groups = c.args.snapshot.now in
    AreLater-settled groups (g.F.Frontier.tentative c.relax_taken.new.self.frontier) (E c.take_bucket.new.self.frontier) (E c.relax_taken.new.self.frontier) c.in-Some.bucket c.in_ok-came_back.came_back c.in_ok-came_back.ensures.search
    (IsBucketEmpty-taken groups.delta c.in-Some.bucket (E c.args.self.now.frontier) c.take_bucket.new.taken.items (E c.take_bucket.new.self.frontier) (takes g here)) c.in_ok-came_back.ensures.none_came
