use Rattle.std.proofs.Common.{◌≡◌, ◌<◌, take, length, sym, subst, ◌∙◌, le_trans, arith}
use Rattle.std.specs.Bool.{OnTrue, OnFalse}
use Rattle.std.proofs.lemmas.List.{take_more}
use Rattle.deltastep.specs.Search.{MeetsRequests, HasQueued, IsBucketEmpty}
use Rattle.deltastep.proofs.Phases.{on_true, on_false, map_true, map_false}
use Rattle.deltastep.proofs.searches.search.Search.meet.Goals as goal
use Rattle.deltastep.proofs.searches.search.Search.meet.Goals.{then-branch, else-branch}

pub loop-request-preserved : goal.loop-request-preserved
loop-request-preserved g c =
    let E = g.F.Frontier.entries in
    let first = c.args.self.now in
    let before = c.loop-request.self in
    let after = c.meet_one.new.self in
    let ensures = c.in_ok-meet_one.ensures in
    let width = g.F.Frontier.width c.args.self.now.frontier in
    let same : g.F.Frontier.width c.loop-request.self.frontier ≡ g.F.Frontier.width c.args.self.now.frontier = c.loop-request.invariant.width in
    let requests = c.args.requests.now in
    let i = c.loop-request.request-index in
    let lt : i < length requests = omega arith in
    let so_far = take i requests in
    let more = take_more requests i (0, 0) lt in
    record {
      met = subst (λ rs. MeetsRequests c.args.top rs (g.F.Frontier.tentative first.frontier) (E first.frontier) (g.F.Frontier.tentative after.frontier) (E after.frontier)) (sym more)
          (ensures.met so_far (g.F.Frontier.tentative first.frontier) (E first.frontier) c.loop-request.invariant.met);
      came_back =
          let P = HasQueued (g.F.Frontier.tentative before.frontier) (E before.frontier) (g.F.Frontier.width c.args.self.now.frontier) c.args.bucket in
          let Q = HasQueued (g.F.Frontier.tentative after.frontier) (E after.frontier) (g.F.Frontier.width c.args.self.now.frontier) c.args.bucket in
          let now = subst (λ w. OnTrue c.in_ok-meet_one.field-0 (HasQueued (g.F.Frontier.tentative after.frontier) (E after.frontier) w c.args.bucket)) same ensures.came_back in
          let keeps = subst (λ w. HasQueued (g.F.Frontier.tentative before.frontier) (E before.frontier) w c.args.bucket → HasQueued (g.F.Frontier.tentative after.frontier) (E after.frontier) w c.args.bucket) same ensures.stays in
          elim c.if-branch.branch [
            | then-branch w ↦ subst (λ b. OnTrue b Q) (sym w.came_back-is) (on_true c.in_ok-meet_one.field-0 Q w.if-branch.true now)
            | else-branch w ↦ subst (λ b. OnTrue b Q) (sym w.came_back-is) (map_true c.loop-request.came_back P Q keeps c.loop-request.invariant.came_back)
          ];
      none_came =
          let Old = IsBucketEmpty (g.F.Frontier.width c.args.self.now.frontier) c.args.bucket (E first.frontier) in
          let Before = IsBucketEmpty (g.F.Frontier.width c.args.self.now.frontier) c.args.bucket (E before.frontier) in
          let After = IsBucketEmpty (g.F.Frontier.width c.args.self.now.frontier) c.args.bucket (E after.frontier) in
          let now = subst (λ w. OnFalse c.in_ok-meet_one.field-0 (IsBucketEmpty w c.args.bucket (E before.frontier) → IsBucketEmpty w c.args.bucket (E after.frontier))) same ensures.none_came in
          elim c.if-branch.branch [
            | then-branch w ↦ subst (λ b. OnFalse b (Old → After)) (sym w.came_back-is) tt
            | else-branch w ↦ subst (λ b. OnFalse b (Old → After)) (sym w.came_back-is)
                (map_false c.loop-request.came_back (Old → Before) (Old → After) (λ f h. on_false c.in_ok-meet_one.field-0 (Before → After) w.if-branch.false now (f h)) c.loop-request.invariant.none_came)
          ];
      weighs = le_trans ensures.weight c.loop-request.invariant.weighs;
      accepts = λ v h. ensures.accepts v (c.loop-request.invariant.accepts v h);
      width = ensures.width ∙ c.loop-request.invariant.width;
      span = ensures.span ∙ c.loop-request.invariant.span;
    }
