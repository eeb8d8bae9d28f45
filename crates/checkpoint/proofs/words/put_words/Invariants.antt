use Rattle.std.proofs.Common.{◌≡◌, ◌+◌, ◌++◌, take}
use Rattle.std.specs.Prelude.{map}
use Rattle.pages.specs.Spelling.{ends_of, word_of}
use Rattle.checkpoint.proofs.words.put_words.Given as goal

abbrev pub invariant-loop-i : goal.invariant-loop-i
invariant-loop-i l = record {
  words : map word_of (take (l.first + l.i) l.arcs) ≡ map word_of (take l.first l.initial.arcs) ++ take l.i l.words;
  ends : map ends_of l.arcs ≡ map ends_of l.initial.arcs;
}
