use Rattle.std.proofs.Common.{◌≡◌, ◌≤◌, ◌-◌, ◌*◌, ◌++◌, length}
use Rattle.pages.specs.Reading.{read_items, read_ends}
use Rattle.pages.proofs.arc_page.read_places.Given as goal

abbrev pub invariant-loop : goal.invariant-loop
invariant-loop l = record {
  so_far : l.ends.items ++ read_items read_ends 8 (l.count - l.counter) l.rest ≡ read_items read_ends 8 l.count l.bytes;
  room : 8 * (l.count - l.counter) ≤ length l.rest;
}
