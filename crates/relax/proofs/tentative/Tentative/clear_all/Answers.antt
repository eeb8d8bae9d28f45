use Rattle.std.proofs.Common.{◌≡◌, ◌⊎◌, ◌∙◌, ap, length-set, ℕ, ◌+◌, ◌<◌, All, None, List, Option, length, take, take_all, get_or, sym, subst, arith}
use Rattle.relax.specs.Values.{value_at}
use Rattle.relax.proofs.Noting.{cleared_more, others_more}
use Rattle.relax.proofs.tentative.Tentative.clear_all.Goals as goal

pub loop-node-preserved : goal.loop-node-preserved
loop-node-preserved c =
    let nodes = c.args.nodes.now in
    let i = c.loop-node.node-index in
    let lt : i < length nodes = omega arith in
    let high : get_or nodes i 0 < length c.loop-node.self = omega (arith, (c.requires.nodes i 0 lt).1, c.loop-node.invariant.places) in
    record {
      cleared = subst (λ (t : List (Option ℕ)). All (λ u. value_at t u ≡ None) (take (i + 1) nodes)) (sym c.clear.ensures.cleared) (cleared_more c.loop-node.self nodes i lt high c.loop-node.invariant.cleared);
      others = subst (λ (t : List (Option ℕ)). (u : ℕ) → (value_at t u ≡ None) ⊎ (value_at t u ≡ value_at c.args.self.now u)) (sym c.clear.ensures.cleared) (others_more c.args.self.now c.loop-node.self (get_or nodes i 0) high c.loop-node.invariant.others);
      places = ap (λ (t : List (Option ℕ)). length t) c.clear.ensures.cleared ∙ length-set c.loop-node.self (get_or nodes i 0) None ∙ c.loop-node.invariant.places;
    }

pub returns-clause-cleared : goal.returns-clause-cleared
returns-clause-cleared c = subst (λ (l : List ℕ). All (λ u. value_at c.loop-node.self u ≡ None) l) (take_all c.loop-node.node-index c.args.nodes.now (omega arith)) c.loop-node.invariant.cleared
