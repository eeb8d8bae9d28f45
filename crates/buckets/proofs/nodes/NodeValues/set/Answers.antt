use Rattle.std.proofs.Common.{◌≡◌, ◌<◌, ◌≤◌, ◌+◌, true, false, get_or, length, ap, ◌∙◌, arith}
use Rattle.std.specs.FinMap.{insert}
use Rattle.buckets.specs.Tables.{IsTable}
use Rattle.buckets.proofs.Tables.{IsTable-grown, IsTable-again, IsTable-new, count-room, entries_of-again, entries_of-set}
use Rattle.buckets.proofs.nodes.NodeValues.set.Goals as goal

pub invariant_of-self-then-is_queued : goal.invariant_of-self-then-is_queued
invariant_of-self-then-is_queued c =
    let flag : get_or c.make_room.new.queued.items c.args.node false ≡ true = cc in
    let lt : c.args.node < length c.make_room.new.queued.items = rw (← c.deref.ensures.value) (c.is_queued.ensures.within c.if-is_queued.true) in
    let grown : IsTable c.self.inside.count c.make_room.new.values.items c.make_room.new.queued.items = IsTable-grown _ _ _ _ _ c.self.invariant c.make_room.ensures.sized c.make_room.ensures.same in
    IsTable-again _ _ _ _ _ grown lt flag

pub returns-then-is_queued-clause-ok : goal.returns-then-is_queued-clause-ok
returns-then-is_queued-clause-ok c =
    let flag : get_or c.make_room.new.queued.items c.args.node false ≡ true = cc in
    let lt : c.args.node < length c.make_room.new.queued.items = rw (← c.deref.ensures.value) (c.is_queued.ensures.within c.if-is_queued.true) in
    entries_of-again c.make_room.new.values.items c.make_room.new.queued.items c.args.node c.args.value c.make_room.ensures.sized lt flag ∙ ap (λ m. insert m c.args.node c.args.value) (c.make_room.ensures.same ∙ c.self.view_is)

pub overflow_add-self : goal.overflow_add-self
overflow_add-self c =
    let flag : get_or c.make_room.new.queued.items c.args.node false ≡ false = cc in
    let room : c.args.node + 1 ≤ length c.make_room.new.queued.items = c.in_ok-make_room.ensures.room in
    let grown : IsTable c.self.inside.count c.make_room.new.values.items c.make_room.new.queued.items = IsTable-grown _ _ _ _ _ c.self.invariant c.make_room.ensures.sized c.make_room.ensures.same in
    let few : c.self.inside.count + 1 ≤ length c.make_room.new.queued.items = count-room _ c.make_room.new.values.items _ c.args.node grown (omega arith) flag in
    omega (arith, c.make_room.new.queued.ok, c.make_room.new.queued.small)

pub invariant_of-self-2 : goal.invariant_of-self-2
invariant_of-self-2 c =
    let flag : get_or c.make_room.new.queued.items c.args.node false ≡ false = cc in
    let room : c.args.node + 1 ≤ length c.make_room.new.queued.items = c.in_ok-make_room.ensures.room in
    let grown : IsTable c.self.inside.count c.make_room.new.values.items c.make_room.new.queued.items = IsTable-grown _ _ _ _ _ c.self.invariant c.make_room.ensures.sized c.make_room.ensures.same in
    IsTable-new _ _ _ _ _ grown (omega arith) flag

pub returns-clause-ok : goal.returns-clause-ok
returns-clause-ok c =
    let room : c.args.node + 1 ≤ length c.make_room.new.queued.items = c.in_ok-make_room.ensures.room in
    entries_of-set c.make_room.new.values.items c.make_room.new.queued.items c.args.node c.args.value c.make_room.ensures.sized (omega arith) ∙ ap (λ m. insert m c.args.node c.args.value) (c.make_room.ensures.same ∙ c.self.view_is)
