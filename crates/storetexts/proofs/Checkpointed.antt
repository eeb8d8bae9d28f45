-- A whole checkpoint, and a flush, while commands are applied.
use Rattle.std.proofs.Common.{◌≡◌, ◌⊎◌, ⊎_elim, inl, inr, ℕ, Bool, true, false, cond, Some, None, Result, Ok, Err, refl, sym, ◌∙◌, ap, subst, arith}
use Rattle.std.specs.Prelude.{IfErr, option_map}
use Rattle.roadnet.specs.declared.refusals.Refusal.{Refusal}
use Rattle.roadnet.specs.declared.refusals.Refusal.TheVariants.{Broken, OutOfMemory, Device}
use Rattle.machine.specs.Machine.{Machine, IsState, pending}
use Rattle.machine.specs.Calls.{Flushes, begins_checkpoint, with_page_flushed}
use Rattle.machine.specs.Runs.Happened.{Flushed}
use Rattle.machine.specs.Lives.{Checkpoints}
use Rattle.machine.proofs.Checkpoints.{but_checkpoint, state_checkpoint, done_behind, calm_checkpoint, calm_goes}
use Rattle.machine.proofs.Kept.{states_kept}
use Rattle.storetexts.specs.Applying.{IsSteady, KeepsAccepted}
use Rattle.store.specs.Opening.{IsPassing}

memory : (b takes : Bool) (refusal : Refusal) → b ≡ false → (cond b (Some Broken) None ≡ Some refusal) ⊎ ((cond b (Some Broken) None ≡ None) × (takes ≡ true) × (refusal ≡ OutOfMemory)) → refusal ≡ OutOfMemory
memory true takes refusal calm h = cc
memory false takes refusal calm h = ⊎_elim (λ told. absurd cc) (λ other. other.2) h

why : (old new : Machine) (refusal : Refusal) → Checkpoints old (Err refusal) new → old.broken ≡ false → (refusal ≡ OutOfMemory) ⊎ ((refusal ≡ Device) × (new.broken ≡ true))
why old new refusal w calm =
    ⊎_elim (λ refused. inl (memory w.1.broken (begins_checkpoint w.1) refusal (calm_goes w.0 old w.1 w.2 calm) refused.0)) (λ failed. inr (failed.2, ap (λ (m : Machine). m.broken) failed.3)) w.3

pub refused_of_device : (old new : Machine) (refusal : Refusal) → Checkpoints old (Err refusal) new → old.broken ≡ false → IsPassing refusal
refused_of_device old new refusal w calm = ⊎_elim (λ none. inl none) (λ device. inr device.0) (why old new refusal w calm)

not_device : (refusal : Refusal) → refusal ≡ OutOfMemory → refusal ≡ Device → ⊥
not_device refusal is device = let never : OutOfMemory ≡ Device = sym is ∙ device in absurd cc

module _ (old new : Machine) (result : Result ℕ Refusal) (w : Checkpoints old result new) where
  abbrev here : Machine
  here = record old { unchecked = new.unchecked; in_flight = new.in_flight; broken = new.broken; checkpoint = new.checkpoint }

  pub kept_checkpoint : KeepsAccepted old new
  kept_checkpoint = subst (KeepsAccepted old) (sym (but_checkpoint old new result w)) (let same : KeepsAccepted old here = record { base = refl; base_version = refl; accepted = refl; durable = omega arith } in same)

  pub pending_checkpoint : pending new ≡ pending old
  pending_checkpoint = ap pending (but_checkpoint old new result w)

  pub steady_with : (new.broken ≡ false → new.checkpoint ≡ None) → IsSteady old → IsSteady new
  steady_with none s =
      let state : IsState here = subst IsState (but_checkpoint old new result w) (state_checkpoint old new result w s.state) in
      subst IsSteady (sym (but_checkpoint old new result w)) (let same : IsSteady here = record { state = state; opened_is = s.opened_is; none_going = none; some_page = s.some_page } in same)

pub steady_checkpoint : (old new : Machine) (result : Result ℕ Refusal) → Checkpoints old result new → old.broken ≡ false → IfErr result (λ refusal. (refusal ≡ Device → ⊥) → new ≡ old) → IsSteady old → IsSteady new
steady_checkpoint old new (Ok version) w calm same s = steady_with old new (Ok version) w (λ works. (done_behind old new version w (s.none_going calm)).0) s
steady_checkpoint old new (Err refusal) w calm same s = ⊎_elim
    (λ none. subst IsSteady (sym (same (not_device refusal none))) s)
    (λ device. steady_with old new (Err refusal) w (λ works. absurd (let never : true ≡ false = sym device.1 ∙ works in cc)) s)
    (why old new refusal w calm)

pub free_checkpoint : (old new : Machine) (version : ℕ) → Checkpoints old (Ok version) new → old.broken ≡ false → IsSteady old → new.unchecked ≡ 0
free_checkpoint old new version w calm s = (done_behind old new version w (s.none_going calm)).1

pub calm_then : (old new : Machine) (version : ℕ) → Checkpoints old (Ok version) new → new.broken ≡ false
calm_then old new version w = calm_checkpoint old new version w

pub steady_flush : (old new : Machine) (result : Result ℕ Refusal) → Flushes old result new → IsSteady old → IsSteady new
steady_flush old new result step s = by result step (states_kept old new (Flushed result) s.state step)
  where
    by : (r : Result ℕ Refusal) → Flushes old r new → IsState new → IsSteady new
    by (Ok v) step state = subst IsSteady (sym step.1)
        (record { state = subst IsState step.1 state; opened_is = s.opened_is; none_going = λ works. ap (option_map with_page_flushed) (s.none_going works); some_page = s.some_page })
    by (Err r) step state = ⊎_elim (λ refused. subst IsSteady (sym refused.1) s)
        (λ broke. subst IsSteady (sym broke.2) (record { state = subst IsState broke.2 state; opened_is = s.opened_is; none_going = λ works. absurd (let never : true ≡ false = works in cc); some_page = s.some_page })) step
