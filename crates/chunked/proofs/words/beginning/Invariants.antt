use Rattle.std.proofs.Common.{◌≡◌, length, take}
use Rattle.chunked.proofs.words.beginning.Given as goal

abbrev pub invariant-loop-place : goal.invariant-loop-place
invariant-loop-place l = record {
  full : length l.all ≡ 1024;
  copied : take l.place l.all ≡ take l.place l.words;
}
