use Rattle.std.proofs.Common.{◌≡◌, ℕ, ◌+◌, ◌/◌, ◌<◌, ◌≤◌, take, length, get_or, List, All, sym, subst, ◌∙◌, le_trans, arith}
use Rattle.std.specs.Bool.{OnTrue, OnFalse}
use Rattle.std.proofs.lemmas.List.{map_more, get_or-map, length-map}
use Rattle.deltastep.specs.Search.{MeetsRequests, requests_by, HasQueued, IsBucketEmpty}
use Rattle.deltastep.proofs.Phases.{on_true, on_false, map_true, map_false}
use Rattle.snapshot.specs.declared.legs.Leg.{Leg}
use Rattle.deltastep.proofs.searches.search.Search.meet_legs.Goals as goal
use Rattle.deltastep.proofs.searches.search.Search.meet_legs.Goals.{then-branch, else-branch}

pub loop-leg-preserved : goal.loop-leg-preserved
loop-leg-preserved g c =
    let E = g.F.Frontier.entries in
    let first = c.args.self.now in
    let before = c.loop-leg.self in
    let after = c.meet_one.new.self in
    let ensures = c.in_ok-meet_one.ensures in
    let width = g.F.Frontier.width c.args.self.now.frontier in
    let same : g.F.Frontier.width c.loop-leg.self.frontier ≡ g.F.Frontier.width c.args.self.now.frontier = c.loop-leg.invariant.width in
    let legs = c.args.legs.now in
    let i = c.loop-leg.leg-index in
    let lt : i < length legs = omega arith in
    let so_far = requests_by c.args.value (take i legs) in
    let more = map_more (λ (leg : Leg). (leg.head, c.args.value + leg.length)) legs i (record { head = 0; length = 0 }) lt in
    record {
      met = subst (λ rs. MeetsRequests c.args.top rs (g.F.Frontier.tentative first.frontier) (E first.frontier) (g.F.Frontier.tentative after.frontier) (E after.frontier)) (sym more)
          (rw c.from.ensures at (ensures.met so_far (g.F.Frontier.tentative first.frontier) (E first.frontier) c.loop-leg.invariant.met));
      came_back =
          let P = HasQueued (g.F.Frontier.tentative before.frontier) (E before.frontier) (g.F.Frontier.width c.args.self.now.frontier) c.args.bucket in
          let Q = HasQueued (g.F.Frontier.tentative after.frontier) (E after.frontier) (g.F.Frontier.width c.args.self.now.frontier) c.args.bucket in
          let now = subst (λ w. OnTrue c.in_ok-meet_one.field-0 (HasQueued (g.F.Frontier.tentative after.frontier) (E after.frontier) w c.args.bucket)) same ensures.came_back in
          let keeps = subst (λ w. HasQueued (g.F.Frontier.tentative before.frontier) (E before.frontier) w c.args.bucket → HasQueued (g.F.Frontier.tentative after.frontier) (E after.frontier) w c.args.bucket) same ensures.stays in
          elim c.if-branch.branch [
            | then-branch w ↦ subst (λ b. OnTrue b Q) (sym w.came_back-is) (on_true c.in_ok-meet_one.field-0 Q w.if-branch.true now)
            | else-branch w ↦ subst (λ b. OnTrue b Q) (sym w.came_back-is) (map_true c.loop-leg.came_back P Q keeps c.loop-leg.invariant.came_back)
          ];
      none_came =
          let Old = IsBucketEmpty (g.F.Frontier.width c.args.self.now.frontier) c.args.bucket (E first.frontier) in
          let Before = IsBucketEmpty (g.F.Frontier.width c.args.self.now.frontier) c.args.bucket (E before.frontier) in
          let After = IsBucketEmpty (g.F.Frontier.width c.args.self.now.frontier) c.args.bucket (E after.frontier) in
          let now = subst (λ w. OnFalse c.in_ok-meet_one.field-0 (IsBucketEmpty w c.args.bucket (E before.frontier) → IsBucketEmpty w c.args.bucket (E after.frontier))) same ensures.none_came in
          elim c.if-branch.branch [
            | then-branch w ↦ subst (λ b. OnFalse b (Old → After)) (sym w.came_back-is) tt
            | else-branch w ↦ subst (λ b. OnFalse b (Old → After)) (sym w.came_back-is)
                (map_false c.loop-leg.came_back (Old → Before) (Old → After) (λ f h. on_false c.in_ok-meet_one.field-0 (Before → After) w.if-branch.false now (f h)) c.loop-leg.invariant.none_came)
          ];
      weighs = le_trans ensures.weight c.loop-leg.invariant.weighs;
      accepts = λ v h. ensures.accepts v (c.loop-leg.invariant.accepts v h);
      width = ensures.width ∙ c.loop-leg.invariant.width;
      span = ensures.span ∙ c.loop-leg.invariant.span;
    }

-- what holds of each request holds of that of the leg at hand
here : (P : ℕ × ℕ → Type 0) (value : ℕ) (legs : List Leg) (i : ℕ) → All P (requests_by value legs) → i < length legs → P ((get_or legs i (record { head = 0; length = 0 })).head, value + (get_or legs i (record { head = 0; length = 0 })).length)
here P value legs i each lt =
    let f : Leg → ℕ × ℕ = λ leg. (leg.head, value + leg.length) in
    subst P (get_or-map f legs i (record { head = 0; length = 0 }) (0, 0) lt) (each i (0, 0) (omega (arith, length-map legs f)))

pub meet_one-requires-clause-node : goal.meet_one-requires-clause-node
meet_one-requires-clause-node g c = subst (λ n. (1 ≤ (get_or c.args.legs.now c.loop-leg.leg-index (record { head = 0; length = 0 })).head) × ((get_or c.args.legs.now c.loop-leg.leg-index (record { head = 0; length = 0 })).head < n)) (sym c.loop-leg.invariant.met.places) (here (λ r. (1 ≤ r.0) × (r.0 < length (g.F.Frontier.tentative c.args.self.now.frontier))) c.args.value c.args.legs.now c.loop-leg.leg-index c.requires.nodes (omega arith))

pub meet_one-requires-clause-fits : goal.meet_one-requires-clause-fits
meet_one-requires-clause-fits g c = rw c.from.ensures (c.loop-leg.invariant.accepts _ (here (λ r. g.F.Frontier.accepts c.args.self.now.frontier r.1) c.args.value c.args.legs.now c.loop-leg.leg-index c.requires.fits (omega arith)))

pub meet_one-requires-clause-above : goal.meet_one-requires-clause-above
meet_one-requires-clause-above g c = rw (c.from.ensures, c.loop-leg.invariant.width) (here (λ r. c.args.bucket ≤ r.1 / g.F.Frontier.width c.args.self.now.frontier) c.args.value c.args.legs.now c.loop-leg.leg-index c.requires.above (omega arith))
