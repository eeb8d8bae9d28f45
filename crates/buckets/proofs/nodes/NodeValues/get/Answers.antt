use Rattle.std.proofs.Common.{◌≡◌, ◌<◌, ◌≤◌, true, false, get_or, length, arith}
use Rattle.std.proofs.lemmas.List.{get_or_read}
use Rattle.buckets.proofs.Tables.{got_some, got_none}
use Rattle.buckets.proofs.nodes.NodeValues.get.Goals as goal

pub returns-then-is_queued : goal.returns-then-is_queued
returns-then-is_queued c =
    let flag : get_or c.self.inside.queued.items c.args.node false ≡ true = cc in
    let lt : c.args.node < length c.self.inside.queued.items = rw (← c.deref.ensures.value) (c.is_queued.ensures.within c.if-is_queued.true) in
    let le : length c.self.inside.queued.items ≤ length c.self.inside.values.items = c.self.invariant.sized in
    got_some c.self.inside.values.items c.self.inside.queued.items c.args.self.now c.args.node c.index.result.now le c.self.view_is flag (get_or_read c.self.inside.values.items c.args.node c.index.result.now (omega arith) c.index.ensures 0)

pub returns-else-is_queued : goal.returns-else-is_queued
returns-else-is_queued c =
    let flag : get_or c.self.inside.queued.items c.args.node false ≡ false = cc in
    got_none c.self.inside.values.items c.self.inside.queued.items c.args.self.now c.args.node c.self.invariant.sized c.self.view_is flag
