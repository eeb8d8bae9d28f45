use Rattle.std.proofs.Common.{◌≡◌, ◌∙◌, ℕ, List, get_or, sym, ap, subst}
use Rattle.std.specs.List.Sorted.{IsStrictlyIncreasing}
use Rattle.std.proofs.lemmas.List.Sums.{fold_more}
use Rattle.roadnet.specs.declared.commands.Command.TheVariants.{Set}
use Rattle.roadnet.specs.Batches.{changed_landmarks}
use Rattle.roadnet.proofs.InTurn.{ascends-changed}
use Rattle.roadnet.proofs.batches.change_landmarks_by.Goals as goal

pub change_landmarks-requires-clause-ascending : goal.change_landmarks-requires-clause-ascending
change_landmarks-requires-clause-ascending c = c.loop-command.invariant.1

pub loop-command-preserved : goal.loop-command-preserved
loop-command-preserved c =
    let is : c.change_landmarks.new.landmarks.items ≡ changed_landmarks c.loop-command.landmarks.items (get_or c.args.commands.now c.loop-command.command-index (Set 0 0)) = c.in_ok-change_landmarks.ensures in (
      is
          ∙ ap (λ (l : List ℕ). changed_landmarks l (get_or c.args.commands.now c.loop-command.command-index (Set 0 0))) c.loop-command.invariant.0
          ∙ sym (fold_more changed_landmarks c.args.landmarks.now.items c.args.commands.now c.loop-command.command-index (Set 0 0) c.loop-command-test.true),
      subst IsStrictlyIncreasing (sym is) (ascends-changed c.loop-command.landmarks.items (get_or c.args.commands.now c.loop-command.command-index (Set 0 0)) c.loop-command.invariant.1),
    )
