use Rattle.std.proofs.Common.{◌≡◌}
use Rattle.upgrades.proofs.Marking.{so_marked}
use Rattle.upgrades.proofs.upgrading.mark_all.Given as goal

abbrev pub invariant-loop-node : goal.invariant-loop-node
invariant-loop-node l = l.marked ≡ so_marked l.fn.network l.landmarks l.node-index
