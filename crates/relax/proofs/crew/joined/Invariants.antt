use Rattle.std.proofs.Common.{◌≡◌, take, flat_map}
use Rattle.relax.proofs.crew.joined.Given as goal

abbrev pub invariant-loop-list : goal.invariant-loop-list
invariant-loop-list l = l.all.items ≡ flat_map (λ list. list.items) (take l.list-index l.lists)
