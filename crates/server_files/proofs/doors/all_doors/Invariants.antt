use Rattle.std.proofs.Common.{◌≡◌, map, take}
use Rattle.server_files.specs.Doors.{begins_at, stands_at}
use Rattle.server_files.proofs.doors.all_doors.Given as goal

-- one door for each pair so far
abbrev pub invariant-loop-pair : goal.invariant-loop-pair
invariant-loop-pair g l = map stands_at l.doors.items ≡ map begins_at (take l.pair-index l.pairs)
