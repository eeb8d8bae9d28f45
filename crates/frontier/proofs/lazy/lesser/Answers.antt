use Rattle.std.proofs.Common.{◌≡◌, true, ℕ, Option, sym, subst, ◌∙◌}
use Rattle.frontier.specs.Live.{AreDead, IsLeastLive, IsLeastOf, is_live}
use Rattle.frontier.proofs.Bags.{IsLeastLive-first, IsLeastLive-min}
use Rattle.frontier.proofs.lazy.lesser.Goals as goal

pub returns-in-Some : goal.returns-in-Some
returns-in-Some g c entries found =
    let t = (g.V.SearchValues.values c.args.tentative.now) in
    let e : ℕ × ℕ = (c.args.node, c.args.value) in
    let live : is_live t e ≡ true = sym c.has_value.ensures ∙ c.if-not-has_value.false in
    let was : IsLeastLive t entries c.in-Some.old = subst (λ (o : Option ℕ). IsLeastOf t entries o) c.in-Some.is found in
    IsLeastLive-min t entries e c.in-Some.old c.min.result live was c.min.ensures

pub returns-in-None : goal.returns-in-None
returns-in-None g c entries found =
    let t = (g.V.SearchValues.values c.args.tentative.now) in
    let e : ℕ × ℕ = (c.args.node, c.args.value) in
    let live : is_live t e ≡ true = sym c.has_value.ensures ∙ c.if-not-has_value.false in
    let was : AreDead t entries = subst (λ (o : Option ℕ). IsLeastOf t entries o) c.in-None.is found in
    IsLeastLive-first t entries e live was
