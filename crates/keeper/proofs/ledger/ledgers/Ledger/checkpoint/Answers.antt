use Rattle.std.proofs.Common.{◌≡◌, ℕ, suc, ◌+◌, false, Some, None, refl, sym, ◌∙◌, ap, subst, arith}
use Rattle.disk.proofs.Steps.{and_then}
use Rattle.store.specs.State.{CameTidy}
use Rattle.machine.specs.Machine.{Machine}
use Rattle.machine.specs.Lives.{GoesOn}
use Rattle.machine.proofs.Checkpoints.{goes_on_more, calm_before, calm_behind, calm_goes, calm_at_first, going_behind, left_at_first, left_more, stepped_is}
use Rattle.keeper.specs.Keeping.{IsDurableIn}
use Rattle.keeper.proofs.Held.{no_call}
use Rattle.keeper.proofs.Whole.{durable_before}
use Rattle.keeper.proofs.ledger.ledgers.Ledger.checkpoint.Goals as goal

pub loop-init : goal.loop-init
loop-init g c =
    let s = c.args.self.now in
    record {
      goes = refl;
      left = left_at_first s.machine c.most_steps-end.ensures.state;
      sizes = refl;
      first = λ none. refl;
      later = λ some. absurd (omega (arith, some));
      counted = refl;
      given = refl;
      run = λ came calm.
          let held = c.holds_durable.ensures came in
          no_call g.D.Disk.left g.D.Disk.moment g.D.Disk.left_since s.disk (IsDurableIn s.machine) (λ d since. g.met.D.Disk.only_now s.disk d held.0 since) held.1.each_left;
      honest = (λ h. h, λ h. h);
    }

pub loop-preserved : goal.loop-preserved
loop-preserved g c =
    let old = c.args.self.now in
    let mid = c.loop.self in
    let new = c.checkpoint_step.new.self in
    let i = c.loop.invariant in
    let step = rw c.in-Going.is at c.in_ok-checkpoint_step.ensures.step in
    let goes : GoesOn (suc c.loop.counter) old.machine new.machine = goes_on_more c.loop.counter old.machine mid.machine new.machine i.goes step in
    let next : suc c.loop.counter ≡ c.loop.counter + 1 = omega arith in
    let calm_old : old.machine.broken ≡ false = calm_at_first c.loop.counter old.machine mid.machine i.goes (calm_before mid.machine new.machine 64 step) in
    record {
      goes = subst (λ (n : ℕ). GoesOn n old.machine new.machine) next goes;
      left = left_more c.loop.counter mid.machine new.machine step i.left;
      sizes = ap (λ (m : Machine). m.sizes) (stepped_is mid.machine new.machine 64 step) ∙ i.sizes;
      first = λ none. absurd (omega (arith, none));
      later = λ some. (calm_old, calm_behind mid.machine new.machine 64 step, λ none. let never : Some _ ≡ None = sym (going_behind mid.machine new.machine 64 step) ∙ none in cc);
      counted = c.in_ok-checkpoint_step.ensures.counted ∙ i.counted;
      given = c.checkpoint_step.ensures.given ∙ i.given;
      run = λ came calm.
          and_then g.D.Disk.moment g.D.Disk.left_since old.disk mid.disk new.disk (IsDurableIn old.machine) (IsDurableIn mid.machine) (i.run came calm)
          (c.checkpoint_step.ensures.any_moment (subst (λ (d : g.row.D.Denot). CameTidy g.D.Disk.honest g.D.Disk.content d) (sym i.given) came) (calm_goes c.loop.counter old.machine mid.machine i.goes calm))
          (durable_before c.loop.counter old.machine mid.machine i.goes);
      honest = (λ h. i.honest.0 (c.checkpoint_step.ensures.honest.0 h), λ h. c.checkpoint_step.ensures.honest.1 (i.honest.1 h));
    }

pub returns-in-Done-clause-any_moment : goal.returns-in-Done-clause-any_moment
returns-in-Done-clause-any_moment g c came calm =
    let old = c.args.self.now in
    let mid = c.loop.self in
    let new = c.checkpoint_step.new.self in
    let i = c.loop.invariant in
    and_then g.D.Disk.moment g.D.Disk.left_since old.disk mid.disk new.disk (IsDurableIn old.machine) (IsDurableIn mid.machine) (i.run came calm)
    (c.checkpoint_step.ensures.any_moment (subst (λ (d : g.row.D.Denot). CameTidy g.D.Disk.honest g.D.Disk.content d) (sym i.given) came) (calm_goes c.loop.counter old.machine mid.machine i.goes calm))
    (durable_before c.loop.counter old.machine mid.machine i.goes)

pub returns-in_err-checkpoint_step-clause-any_moment : goal.returns-in_err-checkpoint_step-clause-any_moment
returns-in_err-checkpoint_step-clause-any_moment g c came calm =
    let old = c.args.self.now in
    let mid = c.loop.self in
    let new = c.checkpoint_step.new.self in
    let i = c.loop.invariant in
    and_then g.D.Disk.moment g.D.Disk.left_since old.disk mid.disk new.disk (IsDurableIn old.machine) (IsDurableIn mid.machine) (i.run came calm)
    (c.checkpoint_step.ensures.any_moment (subst (λ (d : g.row.D.Denot). CameTidy g.D.Disk.honest g.D.Disk.content d) (sym i.given) came) (calm_goes c.loop.counter old.machine mid.machine i.goes calm))
    (durable_before c.loop.counter old.machine mid.machine i.goes)
