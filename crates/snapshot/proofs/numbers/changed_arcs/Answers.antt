use Rattle.std.proofs.Common.{◌≡◌, ◌∙◌, List, length, take, sym, subst, ap, arith, Contains, ⊎_elim}
use Rattle.std.specs.List.{flat_map}
use Rattle.std.proofs.lemmas.List.{take_all}
use Rattle.roadnet.specs.declared.commands.Command.{Command}
use Rattle.snapshot.specs.Changes.{named_by}
use Rattle.snapshot.proofs.Named.{differs_only, named_in, one_more}
use Rattle.snapshot.proofs.numbers.changed_arcs.Goals as goal

pub loop-group-preserved : goal.loop-group-preserved
loop-group-preserved c k small h =
    ⊎_elim
    (λ (before : Contains (flat_map named_in (take c.loop-group.group-index c.args.groups.now)) k). c.in_ok-add_all.ensures.kept k (c.loop-group.invariant k small before))
    (λ now. c.in_ok-add_all.ensures.named k small (subst (λ (commands : List Command). Contains (flat_map named_by commands) k) (sym (c.commands.ensures.value ∙ c.group-item.is)) now))
    (one_more named_in c.args.groups.now c.loop-group.group-index c.group-item.result k (omega (arith, c.loop-group-test.true)) h)

pub returns : goal.returns
returns c =
    let all : take c.loop-group.group-index c.args.groups.now ≡ c.args.groups.now = take_all c.loop-group.group-index c.args.groups.now (omega (arith, c.loop-group-test.false)) in
    differs_only c.args.older.now c.args.newer.now c.args.groups.now c.add_laid.new.numbers.items (omega arith) c.requires
    (λ k small h. c.in_ok-add_laid.ensures.kept k (c.loop-group.invariant k small (subst (λ (groups : List (List Command)). Contains (flat_map named_in groups) k) (sym all) h)))
    (λ k more less. c.in_ok-add_laid.ensures.laid k (omega (arith, ap length c.arcs.ensures.value)) (omega (arith, ap length c.arcs-2.ensures.value)))
