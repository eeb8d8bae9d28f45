use Rattle.std.proofs.Common.{◌≡◌, [], Some, refl, lt_of_lt_of_le, le_of_lt}
use Rattle.frontier.specs.Frontier.{TakesAny}
use Rattle.deltastep.specs.Search.{EndsPhase, HasQueued}
use Rattle.deltastep.proofs.Live.{AreLiveFrom-taken}
use Rattle.deltastep.proofs.Phases.{on_true, on_false, EndsPhase-none, EndsPhase-some, TakesAny-back, weight-taken, FitsFrom-taken}
use Rattle.deltastep.proofs.Relaxing.{IsBucketEmpty-taken}
use Rattle.deltastep.proofs.searches.search.Search.phase.Given.{Over}
use Rattle.deltastep.proofs.searches.search.Search.phase.Goals as goal
use Rattle.deltastep.proofs.searches.search.Search.phase.Goals.{In_ok-relax, In_ok-take_least_into}

-- after the arcs were relaxed
relaxed : (g : Over) (c : In_ok-relax g) → EndsPhase c.args.snapshot.now c.args.bucket (g.F.Frontier.tentative c.args.self.now.frontier) (g.F.Frontier.entries c.args.self.now.frontier) (g.F.Frontier.tentative c.relax.new.self.frontier) (g.F.Frontier.entries c.relax.new.self.frontier) []
relaxed g c = EndsPhase-none c.args.snapshot.now c.args.bucket c.args.nodes.now.items (g.F.Frontier.tentative c.args.self.now.frontier) (g.F.Frontier.entries c.args.self.now.frontier) (g.F.Frontier.tentative c.relax.new.self.frontier) (g.F.Frontier.entries c.relax.new.self.frontier) c.requires.nodes c.requires.light (rw (← c.deref.ensures.value) c.in_ok-relax.ensures.met) c.in_ok-relax.ensures.search c.in_ok-relax.ensures.reached c.in_ok-relax.ensures.stays

queued : (g : Over) (c : In_ok-take_least_into g) → HasQueued (g.F.Frontier.tentative c.relax.new.self.frontier) (g.F.Frontier.entries c.relax.new.self.frontier) c.args.snapshot.now.delta c.args.bucket
queued g c = on_true c.in_ok-relax.field-0 _ c.if-branch.true c.in_ok-relax.ensures.came_back

takes : (g : Over) (c : In_ok-take_least_into g) → (c.in_ok-take_least_into.field-0 ≡ Some c.args.bucket) × TakesAny c.args.snapshot.now.delta (g.F.Frontier.entries c.relax.new.self.frontier) c.args.bucket c.take_least_into.new.nodes.items (g.F.Frontier.entries c.take_least_into.new.self)
takes g c = TakesAny-back c.args.snapshot.now c.args.bucket (g.F.Frontier.tentative c.relax.new.self.frontier) (g.F.Frontier.entries c.relax.new.self.frontier) c.in_ok-take_least_into.field-0 c.take_least_into.new.nodes.items (g.F.Frontier.entries c.take_least_into.new.self) (g.F.Frontier.width c.relax.new.self.frontier) c.in_ok-relax.ensures.suited.width c.in_ok-relax.ensures.search (queued g c) c.in_ok-take_least_into.ensures.taken

pub returns-else-branch-clause-phase : goal.returns-else-branch-clause-phase
returns-else-branch-clause-phase g c = rw c.clear.ensures.items (relaxed g (goal.at.returns-else-branch-clause-phase g c).In_ok-relax)

pub returns-else-branch-clause-emptied : goal.returns-else-branch-clause-emptied
returns-else-branch-clause-emptied g c = on_false c.in_ok-relax.field-0 _ c.if-branch.false c.in_ok-relax.ensures.none_came c.requires.emptied

pub returns-in_ok-take_least_into-clause-phase : goal.returns-in_ok-take_least_into-clause-phase
returns-in_ok-take_least_into-clause-phase g c =
    rw c.take_least_into.ensures.tentative (EndsPhase-some c.args.snapshot.now c.args.bucket (g.F.Frontier.tentative c.args.self.now.frontier) (g.F.Frontier.entries c.args.self.now.frontier) (g.F.Frontier.tentative c.relax.new.self.frontier) (g.F.Frontier.entries c.relax.new.self.frontier) (relaxed g (goal.at.returns-in_ok-take_least_into-clause-phase g c).In_ok-relax) (queued g c) c.args.bucket c.take_least_into.new.nodes.items (g.F.Frontier.entries c.take_least_into.new.self) (takes g c).1)

pub returns-in_ok-take_least_into-clause-weight : goal.returns-in_ok-take_least_into-clause-weight
returns-in_ok-take_least_into-clause-weight g c = rw c.take_least_into.ensures.tentative (le_of_lt (lt_of_lt_of_le (weight-taken _ _ _ (g.F.Frontier.tentative c.relax.new.self.frontier) _ _ _ (takes g c).1) c.in_ok-relax.ensures.weight))

pub returns-in_ok-take_least_into-clause-falls : goal.returns-in_ok-take_least_into-clause-falls
returns-in_ok-take_least_into-clause-falls g c _ = rw c.take_least_into.ensures.tentative (lt_of_lt_of_le (weight-taken _ _ _ (g.F.Frontier.tentative c.relax.new.self.frontier) _ _ _ (takes g c).1) c.in_ok-relax.ensures.weight)

pub returns-in_ok-take_least_into-clause-window : goal.returns-in_ok-take_least_into-clause-window
returns-in_ok-take_least_into-clause-window g c =
    FitsFrom-taken c.args.snapshot.now (g.F.Frontier.accepts c.take_least_into.new.self) (g.F.Frontier.width c.relax.new.self.frontier) (g.F.Frontier.span c.relax.new.self.frontier) c.args.bucket c.args.bucket c.in_ok-relax.ensures.suited.width refl c.in_ok-relax.ensures.suited.window (rw (takes g c).0 at c.in_ok-take_least_into.ensures.window)

pub returns-in_ok-take_least_into-clause-emptied : goal.returns-in_ok-take_least_into-clause-emptied
returns-in_ok-take_least_into-clause-emptied g c = IsBucketEmpty-taken c.args.snapshot.now.delta c.args.bucket (g.F.Frontier.entries c.relax.new.self.frontier) c.take_least_into.new.nodes.items (g.F.Frontier.entries c.take_least_into.new.self) (takes g c).1

pub returns-in_ok-take_least_into-clause-live : goal.returns-in_ok-take_least_into-clause-live
returns-in_ok-take_least_into-clause-live g c begun = AreLiveFrom-taken c.args.snapshot.now c.args.bucket c.args.bucket (g.F.Frontier.entries c.relax.new.self.frontier) c.take_least_into.new.nodes.items (g.F.Frontier.entries c.take_least_into.new.self) (takes g c).1 (c.in_ok-relax.ensures.live begun)
