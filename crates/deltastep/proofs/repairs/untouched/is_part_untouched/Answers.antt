use Rattle.std.proofs.Common.{List, subst}
use Rattle.std.specs.Bool.{OnTrue}
use Rattle.snapshot.specs.declared.legs.Leg.{Leg}
use Rattle.deltastep.specs.Repair.{AreFeasible, AreThere}
use Rattle.deltastep.proofs.Phases.{on_true, on_true_of}
use Rattle.deltastep.proofs.repairs.untouched.is_part_untouched.Goals as goal

pub returns-clause-there : goal.returns-clause-there
returns-clause-there c = on_true_of c.are_feasible.result _ (λ _. subst (λ (l : List Leg). AreThere c.args.after.now c.args.row.now c.args.node c.args.value l) c.legs.ensures.value (on_true c.are_there.result _ c.if-not-are_there.false c.are_there.ensures))

pub returns-clause-feasible : goal.returns-clause-feasible
returns-clause-feasible c = subst (λ (l : List Leg). OnTrue c.are_feasible.result (AreFeasible c.args.row.now c.args.value l)) c.legs-2.ensures.value c.are_feasible.ensures
