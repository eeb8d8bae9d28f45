use Rattle.std.proofs.Common.{◌-◌, length}
use Rattle.upgrades.proofs.Matching.{IsSoFar}
use Rattle.upgrades.proofs.counterparts.counterparts.Given as goal

abbrev pub invariant-loop-next : goal.invariant-loop-next
invariant-loop-next l = IsSoFar l.stored l.new l.before l.after l.parts.items l.from l.next

abbrev pub decreases-loop-next : goal.decreases-loop-next
decreases-loop-next l = length l.after - l.next
