use Rattle.upgrades.proofs.Tables.{IsCounted}
use Rattle.upgrades.proofs.counterparts.count_alone.Given as goal

abbrev pub invariant-loop-number : goal.invariant-loop-number
invariant-loop-number l = IsCounted l.network l.other l.numbers l.others l.count l.from l.number-index
