use Rattle.std.proofs.Common.{◌≡◌, ◌∙◌, ◌+◌, ◌<◌, ap, ap₂, length, sym, arith}
use Rattle.rows.specs.Backs.{back_numbered}
use Rattle.rows.proofs.Numbering.{get_or-numbered, length-numbered}
use Rattle.rows.proofs.backs.WithNumbersRoads.arc_at_place.Goals as goal

pub get-arc-requires : goal.get-arc-requires
get-arc-requires c = omega (arith, c.requires, length-numbered 1 c.args.self.now.network.now.arcs, ap length c.arcs.ensures.value)

pub overflow_cast-place : goal.overflow_cast-place
overflow_cast-place c = omega (arith, c.requires, length-numbered 1 c.args.self.now.network.now.arcs, c.arcs.ensures.network.arcs_to, c.arcs.ensures.network.room_to)

pub overflow_add-place : goal.overflow_add-place
overflow_add-place c = omega (arith, c.requires, length-numbered 1 c.args.self.now.network.now.arcs, c.arcs.ensures.network.arcs_to, c.arcs.ensures.network.room_to)

pub returns : goal.returns
returns c d =
    let arcs = c.args.self.now.network.now.arcs in
    let h : c.args.place < length arcs = omega (arith, c.requires, length-numbered 1 arcs) in
    let number : 1 + c.args.place ≡ c.args.place + 1 = omega arith in
    get_or-numbered 1 arcs c.args.place d d h ∙ (ap₂ back_numbered number (rw c.arcs.ensures.value at c.get-arc.ensures.item d) ∙ sym c.numbered.ensures)
