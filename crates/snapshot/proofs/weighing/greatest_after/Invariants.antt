use Rattle.snapshot.proofs.Regrouped.{AreLess, AreMost, IsOne}
use Rattle.snapshot.proofs.weighing.greatest_after.Given as goal

abbrev pub invariant-loop-place : goal.invariant-loop-place
invariant-loop-place l = record {
  less : AreLess l.touched l.old l.blocks l.was l.place;
  most : AreMost l.touched l.old l.blocks l.was l.place l.most;
  one : IsOne l.touched l.old l.blocks l.was l.most;
}
