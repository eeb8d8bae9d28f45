use Rattle.std.proofs.Common.{◌≡◌, ◌*◌, length, take}
use Rattle.words.specs.Pipes.{names_of, texts, AskBehind}
use Rattle.words.proofs.pipes.two_by_two.Given as goal

-- the pairs so far have the first names, and sessions ask alone at those behind so many
abbrev pub invariant-loop-k : goal.invariant-loop-k
invariant-loop-k l = record {
  names : names_of l.pairs.items ≡ take (2 * l.k) (texts l.names);
  asking : AskBehind l.changing l.pairs.items;
  count : length l.pairs.items ≡ l.k;
}
