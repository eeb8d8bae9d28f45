use Rattle.std.proofs.Common.{rules, ◌+◌, ◌≤◌, length, get_or, take}
use Rattle.std.proofs.lemmas.List.Folds.{length-flat_map-take}
use Rattle.roadnet.specs.Groups.{count_of}
use Rattle.program.proofs.server_life.leave_too_few.Goals as goal

pub returns-then-count-gt-MOST_OF_LIFE : goal.returns-then-count-gt-MOST_OF_LIFE
returns-then-count-gt-MOST_OF_LIFE c =
    let whole : count_of (take c.loop-group.group-index c.args.groups.now) + length (get_or c.args.groups.now c.loop-group.group-index c.group-item.result) ≤ count_of c.args.groups.now =
    length-flat_map-take (λ group. group) c.args.groups.now c.loop-group.group-index c.group-item.result c.loop-group-test.true in
    search (rules, whole)
