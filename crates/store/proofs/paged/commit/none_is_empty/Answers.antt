use Rattle.std.proofs.Common.{◌≤◌, List, length, subst, arith}
use Rattle.roadnet.specs.declared.commands.Command.{Command}
use Rattle.store.proofs.Committed.{some_more, some_all}
use Rattle.store.proofs.paged.commit.none_is_empty.Goals as goal

pub loop-group-preserved : goal.loop-group-preserved
loop-group-preserved c =
    some_more c.args.groups.now c.loop-group.group-index _ c.loop-group-test.true c.loop-group.invariant
    (subst (λ (x : List Command). 1 ≤ length x) c.group-item.is c.commands-commands.ensures.group.0)

pub returns : goal.returns
returns c = some_all c.args.groups.now c.loop-group.group-index (omega arith) c.loop-group.invariant
