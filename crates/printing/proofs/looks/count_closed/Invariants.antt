use Rattle.std.proofs.Common.{◌≡◌, ◌≤◌, length, take}
use Rattle.printing.specs.Chosen.{closed_arcs}
use Rattle.printing.proofs.looks.count_closed.Given as goal

abbrev pub invariant-loop-place : goal.invariant-loop-place
invariant-loop-place l = record {
  counted : l.count ≡ length (closed_arcs (take l.place l.arcs));
  most : l.count ≤ l.place;
}
