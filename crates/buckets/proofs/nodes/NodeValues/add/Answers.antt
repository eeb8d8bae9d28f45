use Rattle.std.proofs.Common.{◌≡◌, ◌≤◌, ◌+◌, false, get_or, length, ap, ◌∙◌, arith}
use Rattle.std.specs.FinMap.{insert}
use Rattle.buckets.specs.Tables.{IsTable}
use Rattle.buckets.proofs.Tables.{IsTable-grown, IsTable-new, count-room, entries_of-set, unqueued_flag}
use Rattle.buckets.proofs.nodes.NodeValues.add.Goals as goal

pub overflow_add-self : goal.overflow_add-self
overflow_add-self c =
    let flag : get_or c.make_room.new.queued.items c.args.node false ≡ false = unqueued_flag c.make_room.new.values.items c.make_room.new.queued.items c.args.self.now c.args.node c.make_room.ensures.sized (c.make_room.ensures.same ∙ c.self.view_is) c.requires in
    let room : c.args.node + 1 ≤ length c.make_room.new.queued.items = c.in_ok-make_room.ensures.room in
    let grown : IsTable c.self.inside.count c.make_room.new.values.items c.make_room.new.queued.items = IsTable-grown _ _ _ _ _ c.self.invariant c.make_room.ensures.sized c.make_room.ensures.same in
    let few : c.self.inside.count + 1 ≤ length c.make_room.new.queued.items = count-room _ c.make_room.new.values.items _ c.args.node grown (omega arith) flag in
    omega (arith, c.make_room.new.queued.ok, c.make_room.new.queued.small)

pub invariant_of-self-2 : goal.invariant_of-self-2
invariant_of-self-2 c =
    let flag : get_or c.make_room.new.queued.items c.args.node false ≡ false = unqueued_flag c.make_room.new.values.items c.make_room.new.queued.items c.args.self.now c.args.node c.make_room.ensures.sized (c.make_room.ensures.same ∙ c.self.view_is) c.requires in
    let room : c.args.node + 1 ≤ length c.make_room.new.queued.items = c.in_ok-make_room.ensures.room in
    let grown : IsTable c.self.inside.count c.make_room.new.values.items c.make_room.new.queued.items = IsTable-grown _ _ _ _ _ c.self.invariant c.make_room.ensures.sized c.make_room.ensures.same in
    IsTable-new _ _ _ _ _ grown (omega arith) flag

pub returns-clause-ok : goal.returns-clause-ok
returns-clause-ok c =
    let room : c.args.node + 1 ≤ length c.make_room.new.queued.items = c.in_ok-make_room.ensures.room in
    entries_of-set c.make_room.new.values.items c.make_room.new.queued.items c.args.node c.args.value c.make_room.ensures.sized (omega arith) ∙ ap (λ m. insert m c.args.node c.args.value) (c.make_room.ensures.same ∙ c.self.view_is)
