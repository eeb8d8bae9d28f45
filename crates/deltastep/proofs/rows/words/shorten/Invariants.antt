use Rattle.std.proofs.Common.{◌≡◌, map, take}
use Rattle.deltastep.specs.Words.{distance_of_short, distance_of_word}
use Rattle.deltastep.proofs.rows.words.shorten.Given as goal

abbrev pub invariant-loop-word : goal.invariant-loop-word
invariant-loop-word l = map distance_of_short l.short.items ≡ map distance_of_word (take l.word-index l.words)
