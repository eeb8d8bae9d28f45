use Rattle.std.proofs.Common.{ℕ, List, Option, IfSome, subst, sym}
use Rattle.deltastep.specs.declared.repairs.remaining.Remains.{Remains}
use Rattle.deltastep.specs.Search.{AreReached, IsBetweenBuckets}
use Rattle.std.specs.FinMap.{empty}
use Rattle.deltastep.proofs.Finishing.{RowOf-over}
use Rattle.deltastep.proofs.repairs.repairing.repaired.Goals as goal

pub returns : goal.returns
returns g c =
    let groups = c.args.snapshot.now in
    let reached : AreReached groups c.args.source c.in-Some.remains.tentative = subst (λ (o : Option Remains). IfSome o (λ (r : Remains). AreReached groups c.args.source r.tentative)) c.in-Some.is c.in_ok-remains.ensures.reached in
    let begun = c.in_ok-frontier.ensures.state c.args.source (subst (λ (t : List (Option ℕ)). AreReached groups c.args.source t) (sym c.in_ok-frontier.ensures.tentative) reached) in
    let over : IsBetweenBuckets groups c.args.source c.into_parts-values.result.0.tentative empty = subst (λ (t : List (Option ℕ)). IsBetweenBuckets groups c.args.source t empty) (sym c.into_parts-values.ensures.tentative) (c.in_default-settle_all.ensures.settled c.args.source begun) in
    record { row = λ net snapshot. RowOf-over net groups snapshot c.nodes.ensures.grouped c.args.source c.into_parts-values.result.0.tentative c.in_ok-from_tentative.field-0 c.requires.node.0 c.requires.node.1 over c.in_ok-from_tentative.ensures }

pub settle_all-requires-clause-state : goal.settle_all-requires-clause-state
settle_all-requires-clause-state g c =
    let groups = c.args.snapshot.now in
    let reached : AreReached groups c.args.source c.in-Some.remains.tentative = subst (λ (o : Option Remains). IfSome o (λ (r : Remains). AreReached groups c.args.source r.tentative)) c.in-Some.is c.in_ok-remains.ensures.reached in
    (c.args.source, c.in_ok-frontier.ensures.state c.args.source (subst (λ (t : List (Option ℕ)). AreReached groups c.args.source t) (sym c.in_ok-frontier.ensures.tentative) reached))
