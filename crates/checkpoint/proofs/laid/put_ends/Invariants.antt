use Rattle.std.proofs.Common.{◌≡◌, ◌+◌, ◌++◌, take}
use Rattle.std.specs.Prelude.{map}
use Rattle.pages.specs.Spelling.{ends_of, word_of}
use Rattle.checkpoint.proofs.laid.put_ends.Given as goal

abbrev pub invariant-loop-i : goal.invariant-loop-i
invariant-loop-i l = record {
  put : map ends_of (take (l.first + l.i) l.arcs) ≡ map ends_of (take l.first l.initial.arcs) ++ take l.i l.ends;
  words : map word_of l.arcs ≡ map word_of l.initial.arcs;
}
