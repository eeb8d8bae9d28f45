use Rattle.std.proofs.Common.{◌≡◌, ◌/◌, ◌≤◌, true, false, sym, subst, ◌∙◌}
use Rattle.deltastep.specs.Search.{HasQueued, IsBucketEmpty}
use Rattle.deltastep.proofs.Phases.{on_true_of, on_false_of, IsBucketEmpty-more}
use Rattle.deltastep.proofs.Lowering.{MeetsRequests-more, weight-more, HasQueued-more, HasQueued-put}
use Rattle.deltastep.proofs.searches.search.Search.meet_one.Goals as goal

pub returns-clause-met : goal.returns-clause-met
returns-clause-met g c requests first queue so_far =
    let E = g.F.Frontier.entries in
    let after = c.lower.new.self in
    let lowered = c.in_ok-lower.ensures in
    MeetsRequests-more c.args.top requests first queue (g.F.Frontier.tentative c.args.self.now.frontier) (E c.args.self.now.frontier) so_far c.args.node c.args.value c.requires.node.1 c.in_ok-lower.field-0 (g.F.Frontier.tentative after.frontier) (E after.frontier) lowered.lowered lowered.tentative lowered.queued

pub returns-clause-came_back : goal.returns-clause-came_back
returns-clause-came_back g c =
    let E = g.F.Frontier.entries in
    let width = g.F.Frontier.width c.args.self.now.frontier in
    let after = c.lower.new.self in
    let e : c.args.delta ≡ g.F.Frontier.width c.args.self.now.frontier = c.requires.width in
    let late : c.args.bucket ≤ c.args.value / c.args.delta = subst (λ d. c.args.bucket ≤ c.args.value / d) (sym e) c.requires.above in
    on_true_of c.is_near.result (HasQueued (g.F.Frontier.tentative after.frontier) (E after.frontier) width c.args.bucket)
    (λ near. HasQueued-put (g.F.Frontier.tentative c.args.self.now.frontier) (E c.args.self.now.frontier) width c.args.bucket c.args.node c.args.value c.requires.node.1 (subst (λ d. c.args.value / d ≡ c.args.bucket) e ((c.is_near.ensures c.args.bucket c.requires.start late).0 near)) c.in_ok-lower.field-0 (g.F.Frontier.tentative after.frontier) (E after.frontier) c.if-not-branch.false c.in_ok-lower.ensures.tentative c.in_ok-lower.ensures.queued)

pub returns-clause-stays : goal.returns-clause-stays
returns-clause-stays g c =
    let E = g.F.Frontier.entries in
    let after = c.lower.new.self in
    let lowered = c.in_ok-lower.ensures in
    HasQueued-more c.args.top (g.F.Frontier.tentative c.args.self.now.frontier) (E c.args.self.now.frontier) (g.F.Frontier.width c.args.self.now.frontier) c.args.bucket c.args.node c.args.value (subst (λ w. 1 ≤ w) c.requires.width c.requires.positive) c.requires.node.1 c.requires.above c.in_ok-lower.field-0 (g.F.Frontier.tentative after.frontier) (E after.frontier) lowered.lowered lowered.tentative lowered.queued

pub returns-clause-none_came : goal.returns-clause-none_came
returns-clause-none_came g c =
    let E = g.F.Frontier.entries in
    let width = g.F.Frontier.width c.args.self.now.frontier in
    let after = c.lower.new.self in
    let e : c.args.delta ≡ g.F.Frontier.width c.args.self.now.frontier = c.requires.width in
    let late : c.args.bucket ≤ c.args.value / c.args.delta = subst (λ d. c.args.bucket ≤ c.args.value / d) (sym e) c.requires.above in
    on_false_of c.is_near.result (IsBucketEmpty width c.args.bucket (E c.args.self.now.frontier) → IsBucketEmpty width c.args.bucket (E after.frontier))
    (λ far. IsBucketEmpty-more width c.args.bucket c.args.node c.args.value (E c.args.self.now.frontier) (E after.frontier) c.in_ok-lower.field-0 c.in_ok-lower.ensures.queued
    (λ _ within. let no : true ≡ false = sym ((c.is_near.ensures c.args.bucket c.requires.start late).1 (subst (λ d. c.args.value / d ≡ c.args.bucket) (sym e) within)) ∙ far in let absurdity : ⊥ = cc in absurdity))

pub returns-clause-weight : goal.returns-clause-weight
returns-clause-weight g c =
    let E = g.F.Frontier.entries in
    let after = c.lower.new.self in
    let lowered = c.in_ok-lower.ensures in
    weight-more c.args.top (g.F.Frontier.tentative c.args.self.now.frontier) (E c.args.self.now.frontier) c.args.node c.args.value c.requires.node.1 c.in_ok-lower.field-0 (g.F.Frontier.tentative after.frontier) (E after.frontier) lowered.lowered lowered.tentative lowered.queued
