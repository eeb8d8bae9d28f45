use Rattle.std.proofs.Common.{◌≡◌, map, replicate}
use Rattle.chunked.proofs.table.Table.filled.Given as goal

abbrev pub invariant-loop-k : goal.invariant-loop-k
invariant-loop-k g l = map (λ item. item.value) l.items.items ≡ replicate l._k l.item.value
