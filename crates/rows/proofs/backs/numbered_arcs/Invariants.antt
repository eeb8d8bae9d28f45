use Rattle.std.proofs.Common.{◌≡◌, ◌≤◌, ◌-◌, drop, take}
use Rattle.rows.specs.Backs.{numbered_from}
use Rattle.rows.proofs.backs.numbered_arcs.Given as goal

abbrev pub invariant-loop-place : goal.invariant-loop-place
invariant-loop-place l = record {
  from : l.first ≤ l.place;
  all : l.all.items ≡ take (l.place - l.first) (drop l.first (numbered_from 1 l.network.arcs));
}
