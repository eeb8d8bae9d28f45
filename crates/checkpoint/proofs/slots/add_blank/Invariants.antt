use Rattle.std.proofs.Common.{◌≡◌, ◌≤◌, take, length}
use Rattle.checkpoint.proofs.slots.add_blank.Given as goal

abbrev pub invariant-loop : goal.invariant-loop
invariant-loop l = record {
  count : length l.arcs.items ≡ l.counter;
  more : length l.fn.arcs.items ≤ length l.arcs.items;
  first : take (length l.fn.arcs.items) l.arcs.items ≡ l.fn.arcs.items;
}
