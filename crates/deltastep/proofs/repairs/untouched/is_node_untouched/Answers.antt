use Rattle.std.proofs.Common.{◌∙◌, sym, ap}
use Rattle.roadnet.specs.Walks.{distance_at}
use Rattle.deltastep.proofs.Phases.{on_true, on_true_of}
use Rattle.deltastep.proofs.Staying.{IsUntouched-parts}
use Rattle.deltastep.proofs.repairs.untouched.is_node_untouched.Goals as goal

pub returns : goal.returns
returns c =
    let there = on_true c.is_part_untouched.result _ c.if-not-is_part_untouched.false c.is_part_untouched.ensures.there in
    let feasible = on_true c.is_part_untouched.result _ c.if-not-is_part_untouched.false c.is_part_untouched.ensures.feasible in
    on_true_of c.is_part_untouched-2.result _ (λ passed. IsUntouched-parts c.args.before.now c.args.after.now c.args.row.now c.args.node c.in-Some.value (ap (distance_at c.args.row.now) (sym c.from.ensures) ∙ sym c.in-Some.ensures)
    there
    feasible
    (on_true c.is_part_untouched-2.result _ passed c.is_part_untouched-2.ensures.there)
    (on_true c.is_part_untouched-2.result _ passed c.is_part_untouched-2.ensures.feasible))
