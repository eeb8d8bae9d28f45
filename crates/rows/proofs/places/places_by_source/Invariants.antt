use Rattle.rows.specs.Batches.{ArePlaces}
use Rattle.rows.proofs.places.places_by_source.Given as goal

abbrev pub invariant-loop-place : goal.invariant-loop-place
invariant-loop-place g l = record {
  places : ArePlaces l.place l.places.items;
}
