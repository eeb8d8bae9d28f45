use Rattle.std.proofs.Common.{◌≡◌, length}
use Rattle.dimacs.specs.Faults.{Row}
use Rattle.dimacs.specs.Lines.{fields}
use Rattle.scripts.specs.ScriptReading.{HasPicks}
use Rattle.scripts.proofs.script_stops.read_picks.Given as goal

abbrev pub invariant-loop : goal.invariant-loop
invariant-loop l = record {
  taken : Row;
  has : HasPicks (fields l.behind) taken l.read;
  count : length taken ≡ l.counter;
  places : l.read.count ≡ l.counter;
}
