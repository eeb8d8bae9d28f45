use Rattle.upgrades.proofs.Changing.{IsRenewedTo}
use Rattle.upgrades.proofs.renewing.renew_all.Given as goal

abbrev pub invariant-loop-number : goal.invariant-loop-number
invariant-loop-number l = IsRenewedTo l.stored l.old l.fn.new l.made l.number
