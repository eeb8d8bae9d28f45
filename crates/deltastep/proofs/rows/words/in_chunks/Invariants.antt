use Rattle.std.proofs.Common.{◌≡◌, ◌*◌, map, take}
use Rattle.deltastep.specs.Words.{distance_of_short, distance_of_word}
use Rattle.deltastep.proofs.rows.words.in_chunks.Given as goal

abbrev pub invariant-loop-k : goal.invariant-loop-k
invariant-loop-k l = map distance_of_short l.chunks ≡ map distance_of_word (take (l.k * 1024) l.words)
