use Rattle.std.proofs.Common.{◌≡◌, ap, sym, ◌∙◌, eq-eqb, eqb-true}
use Rattle.std.specs.FinMap.{len}
use Rattle.buckets.proofs.nodes.NodeValues.is_single.Goals as goal

pub returns : goal.returns
returns c =
    let e : c.self.inside.count ≡ len c.args.self.now = c.self.invariant.counted ∙ ap len c.self.view_is in
    (λ h. sym e ∙ eqb-true c.self.inside.count 1 h, λ h. eq-eqb c.self.inside.count 1 (e ∙ h))
