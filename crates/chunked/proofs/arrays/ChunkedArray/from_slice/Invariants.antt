use Rattle.std.proofs.Common.{◌≡◌, ◌*◌, take}
use Rattle.chunked.proofs.arrays.ChunkedArray.from_slice.Given as goal

abbrev pub invariant-loop-k : goal.invariant-loop-k
invariant-loop-k g l = l.array ≡ take (l.k * 1024) l.items
