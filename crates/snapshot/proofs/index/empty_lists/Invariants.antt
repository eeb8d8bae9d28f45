use Rattle.std.proofs.Common.{◌≡◌, [], map, replicate}
use Rattle.snapshot.proofs.index.empty_lists.Given as goal

abbrev pub invariant-loop-count : goal.invariant-loop-count
invariant-loop-count l = map (λ list. list.value.items) l.lists.items ≡ replicate l.count-index []
