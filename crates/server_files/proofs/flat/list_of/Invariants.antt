use Rattle.std.proofs.Common.{◌≡◌, ◌*◌, take}
use Rattle.server_files.proofs.flat.list_of.Given as goal

abbrev pub invariant-loop-k : goal.invariant-loop-k
invariant-loop-k l = l.list.items ≡ take (l.k * 1024) l.arcs
