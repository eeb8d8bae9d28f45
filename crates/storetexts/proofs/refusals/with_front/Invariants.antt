use Rattle.std.proofs.Common.{◌≡◌, take}
use Rattle.storetexts.proofs.refusals.with_front.Given as goal

-- copies of the groups so far
abbrev pub invariant-loop-other : goal.invariant-loop-other
invariant-loop-other l = l.copies.items ≡ take l.other-index l.groups
