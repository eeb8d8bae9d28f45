use Rattle.std.proofs.Common.{◌≡◌, ◌<◌, true, false, get_or, length, sym, ap, ◌∙◌}
use Rattle.std.specs.FinMap.{remove}
use Rattle.buckets.proofs.Tables.{IsTable-less, count-positive, entries_of-unset, got_none, remove_none}
use Rattle.buckets.proofs.nodes.NodeValues.remove.Goals as goal

pub overflow_sub-self : goal.overflow_sub-self
overflow_sub-self c =
    let flag : get_or c.self.inside.queued.items c.args.node false ≡ true = cc in
    count-positive c.self.inside.count c.self.inside.values.items c.self.inside.queued.items c.args.node c.self.invariant flag

pub invariant_of-self : goal.invariant_of-self
invariant_of-self c =
    let flag : get_or c.self.inside.queued.items c.args.node false ≡ true = cc in
    let lt : c.args.node < length c.self.inside.queued.items = rw (← c.deref.ensures.value) (c.is_queued.ensures.within c.if-is_queued.true) in
    IsTable-less c.self.inside.count c.self.inside.values.items c.self.inside.queued.items c.args.node c.self.invariant lt flag

pub returns-then-is_queued : goal.returns-then-is_queued
returns-then-is_queued c =
    let lt : c.args.node < length c.self.inside.queued.items = rw (← c.deref.ensures.value) (c.is_queued.ensures.within c.if-is_queued.true) in
    entries_of-unset c.self.inside.values.items c.self.inside.queued.items c.args.node c.self.invariant.sized lt ∙ ap (λ m. remove m c.args.node) c.self.view_is

pub returns-else-is_queued : goal.returns-else-is_queued
returns-else-is_queued c =
    let flag : get_or c.self.inside.queued.items c.args.node false ≡ false = cc in
    sym (remove_none c.args.self.now c.args.node (sym (got_none c.self.inside.values.items c.self.inside.queued.items c.args.self.now c.args.node c.self.invariant.sized c.self.view_is flag)))
