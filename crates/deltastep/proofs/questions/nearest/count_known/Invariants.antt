use Rattle.std.proofs.Common.{◌≡◌, Some, count_by, take}
use Rattle.deltastep.specs.Reach.{has_within}
use Rattle.deltastep.proofs.questions.nearest.count_known.Given as goal

abbrev pub invariant-loop-node : goal.invariant-loop-node
invariant-loop-node g l = l.count ≡ count_by (has_within (g.F.Frontier.tentative l.frontier) (Some l.end)) (take l.node-index l.among)
