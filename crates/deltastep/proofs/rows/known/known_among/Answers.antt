use Rattle.std.proofs.Common.{◌∙◌, ◌<◌, ◌++◌, ◌∷◌, [], ℕ, List, length, get_or, cond, sym, ap, arith}
use Rattle.std.proofs.lemmas.List.Elements.{filter_more}
use Rattle.deltastep.specs.Reach.{has_within}
use Rattle.deltastep.proofs.rows.known.known_among.Goals as goal

pub loop-node-preserved : goal.loop-node-preserved
loop-node-preserved g c =
    let p = has_within (g.V.Known.values c.args.values.now) c.args.end in
    let nodes = c.args.nodes.now in
    let i = c.loop-node.node-index in
    let lt : i < length nodes = omega arith in
    let node = get_or nodes i 0 in
    c.in_ok-add_known.ensures ∙ (ap (λ (xs : List ℕ). xs ++ cond (p node) (node ∷ []) []) c.loop-node.invariant ∙ sym (filter_more p nodes i 0 lt))
