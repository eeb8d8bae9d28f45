use Rattle.std.proofs.Common.{◌≡◌, ◌≤◌, ◌<◌, ℕ, false, length}
use Rattle.std.specs.Prelude.{slice_index}
use Rattle.dimacs.specs.Lines.{is_blank}
use Rattle.dimacs.proofs.numerals.numeral_end.last_field_start.Given as goal

abbrev pub invariant-loop-start : goal.invariant-loop-start
invariant-loop-start l = record {
  within : l.start ≤ length l.front;
  field : (k : ℕ) → l.start ≤ k → k < length l.front → is_blank (slice_index l.front k) ≡ false;
}

abbrev pub decreases-loop-start : goal.decreases-loop-start
decreases-loop-start l = l.start
