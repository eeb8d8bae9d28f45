use Rattle.std.proofs.Common.{◌≡◌, take}
use Rattle.store.specs.Committing.{alone}
use Rattle.store.proofs.stores.alone.groups_of.Given as goal

abbrev pub invariant-loop-at : goal.invariant-loop-at
invariant-loop-at l = take l.at l.groups ≡ alone (take l.at l.commands)
