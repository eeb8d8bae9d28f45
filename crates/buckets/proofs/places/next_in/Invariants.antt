use Rattle.buckets.proofs.Bits.{IsNoneBefore}
use Rattle.buckets.proofs.places.next_in.Given as goal

abbrev pub invariant-loop-place : goal.invariant-loop-place
invariant-loop-place l = IsNoneBefore l.words l.from l.place
