use Rattle.std.specs.Prelude.{◌≡◌, ◌+◌, take, drop}
use Rattle.roadnet.specs.Groups.{count_of}
use Rattle.machine.specs.Machine.{fitting, most_of_page}
use Rattle.keeper.proofs.ledger.flushing.front.Given as goal

abbrev pub invariant-loop-group : goal.invariant-loop-group
invariant-loop-group l = record {
  index : l.count ≡ l.group-index;
  front : fitting most_of_page l.groups ≡ l.count + fitting l.room (drop l.group-index l.groups);
  sum : count_of (take l.group-index l.groups) + l.room ≡ most_of_page;
}
