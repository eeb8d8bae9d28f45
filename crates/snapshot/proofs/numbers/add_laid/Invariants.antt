use Rattle.std.proofs.Common.{ℕ, ◌<◌, ◌≤◌, Contains}
use Rattle.snapshot.proofs.numbers.add_laid.Given as goal

abbrev pub invariant-loop-number : goal.invariant-loop-number
invariant-loop-number l = record {
  kept : (k : ℕ) → Contains l.fn.numbers.items k → Contains l.numbers.items k;
  laid : (k : ℕ) → l.first < k → k ≤ l.number → Contains l.numbers.items k;
}
