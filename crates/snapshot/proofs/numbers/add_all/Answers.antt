use Rattle.std.proofs.Common.{◌≡◌, List, take, sym, subst, arith, Contains, ⊎_elim}
use Rattle.std.specs.List.{flat_map}
use Rattle.std.proofs.lemmas.List.{take_all}
use Rattle.roadnet.specs.declared.commands.Command.{Command}
use Rattle.roadnet.specs.declared.commands.Command.TheVariants.{Set}
use Rattle.snapshot.specs.Changes.{named_by}
use Rattle.snapshot.proofs.Named.{one_more}
use Rattle.snapshot.proofs.numbers.add_all.Goals as goal

pub loop-command-preserved : goal.loop-command-preserved
loop-command-preserved c = record {
  kept = λ k h. c.in_ok-add_named.ensures.kept k (c.loop-command.invariant.kept k h);
  named = λ k small h.
      ⊎_elim
      (λ (before : Contains (flat_map named_by (take c.loop-command.command-index c.args.commands.now)) k). c.in_ok-add_named.ensures.kept k (c.loop-command.invariant.named k small before))
      (λ now. c.in_ok-add_named.ensures.named k small now)
      (one_more named_by c.args.commands.now c.loop-command.command-index (Set 0 0) k (omega (arith, c.loop-command-test.true)) h);
}

pub returns-clause-named : goal.returns-clause-named
returns-clause-named c k small h =
    let all : take c.loop-command.command-index c.args.commands.now ≡ c.args.commands.now = take_all c.loop-command.command-index c.args.commands.now (omega (arith, c.loop-command-test.false)) in
    c.loop-command.invariant.named k small (subst (λ (commands : List Command). Contains (flat_map named_by commands) k) (sym all) h)
