use Rattle.std.proofs.Common.{◌∙◌, ◌<◌, ◌+◌, Some, length, sym, ap, arith}
use Rattle.std.proofs.lemmas.List.Sums.{count_by_more_no, count_by_more_yes}
use Rattle.deltastep.specs.Reach.{has_within, is_within}
use Rattle.deltastep.proofs.questions.nearest.count_known.Goals as goal
use Rattle.deltastep.proofs.questions.nearest.count_known.Goals.{then-is_known, else-is_known}

pub loop-node-preserved : goal.loop-node-preserved
loop-node-preserved g c =
    let p = has_within (g.F.Frontier.tentative c.args.frontier.now) (Some c.args.end) in
    let nodes = c.args.among.now in
    let i = c.loop-node.node-index in
    let lt : i < length nodes = omega arith in
    elim c.if-is_known.branch [
      | then-is_known w ↦ w.count-is ∙ (ap (λ n. n + 1) c.loop-node.invariant ∙ sym (count_by_more_yes p nodes i 0 lt (sym (ap (is_within (Some c.args.end)) c.value.ensures.value) ∙ (sym c.is_known.ensures ∙ w.if-is_known.true))))
      | else-is_known w ↦ w.count-is ∙ (c.loop-node.invariant ∙ sym (count_by_more_no p nodes i 0 lt (sym (ap (is_within (Some c.args.end)) c.value.ensures.value) ∙ (sym c.is_known.ensures ∙ w.if-is_known.false))))
    ]
