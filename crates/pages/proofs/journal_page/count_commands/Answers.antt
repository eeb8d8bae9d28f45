use Rattle.std.proofs.Common.{◌+◌, ap, length, arith}
use Rattle.pages.proofs.Grouped.{count_more, count_to}
use Rattle.pages.proofs.journal_page.count_commands.Goals as goal

pub overflow_add-count : goal.overflow_add-count
overflow_add-count c =
    let more = count_more c.args.groups.now c.loop-group.group-index c.group-item.result c.loop-group-test.true in
    omega (arith, more, count_to c.args.groups.now (c.loop-group.group-index + 1), c.loop-group.invariant, ap length c.commands.ensures.value, ap length c.group-item.is, c.requires)
