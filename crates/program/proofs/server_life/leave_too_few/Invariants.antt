use Rattle.std.proofs.Common.{◌≡◌, ◌+◌, ◌≤◌, take}
use Rattle.roadnet.specs.Groups.{count_of, most_of_group}
use Rattle.machine.specs.Machine.{most_of_life}
use Rattle.program.proofs.server_life.leave_too_few.Given as goal

-- the groups so far have so many commands, and one more is taken
abbrev pub invariant-loop-group : goal.invariant-loop-group
invariant-loop-group l = record {
  counted : l.count ≡ count_of (take l.group-index l.groups);
  few : l.count + most_of_group ≤ most_of_life;
}
