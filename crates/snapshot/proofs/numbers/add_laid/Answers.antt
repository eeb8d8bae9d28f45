use Rattle.std.proofs.Common.{◌+◌, ◌<◌, ◌≤◌, [], ◌∷◌, arith, ⊎_elim}
use Rattle.std.proofs.lemmas.Bool.{cases_lt}
use Rattle.std.proofs.lemmas.List.Elements.{Contains-append_left, Contains-append_right}
use Rattle.snapshot.proofs.numbers.add_laid.Goals as goal

pub loop-number-preserved : goal.loop-number-preserved
loop-number-preserved c =
    rw c.in_ok-push.ensures.items
    (record {
      kept = λ k h. Contains-append_left c.loop-number.numbers.items ((c.loop-number.number + 1) ∷ []) k (c.loop-number.invariant.kept k h);
      laid = λ k more less.
          ⊎_elim
          (λ (lt : k < c.loop-number.number + 1). Contains-append_left c.loop-number.numbers.items ((c.loop-number.number + 1) ∷ []) k (c.loop-number.invariant.laid k more (omega arith)))
          (λ (ge : c.loop-number.number + 1 ≤ k). Contains-append_right c.loop-number.numbers.items ((c.loop-number.number + 1) ∷ []) k (0, omega arith, omega arith))
          (cases_lt k (c.loop-number.number + 1));
    })
