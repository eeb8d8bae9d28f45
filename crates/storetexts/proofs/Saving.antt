-- A call that writes for the groups that have come: a checkpoint or a flush of their ledger.
use Rattle.std.proofs.Common.{◌≡◌, ◌∙◌, ⊎_elim, ℕ, false, Result, Ok, Err, refl, sym, ap, subst, arith}
use Rattle.std.specs.Prelude.{◌↔◌, OnOk, IfErr, vec_capacity}
use Rattle.roadnet.specs.declared.refusals.Refusal.{Refusal}
use Rattle.roadnet.specs.declared.refusals.Refusal.TheVariants.{Device}
use Rattle.disk.specs.declared.disk.Disk.{Ghosts}
use Rattle.disk.specs.Moments.{LeavesOnly}
use Rattle.pagereader.specs.Outcomes.{failures_told}
use Rattle.machine.specs.Machine.{Machine, batch}
use Rattle.machine.specs.Calls.{Flushes, failed}
use Rattle.machine.specs.Lives.{Checkpoints}
use Rattle.keeper.specs.Keeping.{IsDurableIn}
use Rattle.store.specs.State.{CameTidy}
use Rattle.storetexts.specs.declared.applying.Applying.{Applying}
use Rattle.storetexts.specs.Applying.{IsReady, KeepsAccepted, Saves}
use Rattle.storetexts.proofs.Checkpointed.{kept_checkpoint, pending_checkpoint, steady_checkpoint, steady_flush}
use Rattle.storetexts.proofs.Meanwhile.{kept_both, goes_none, goes_both, leaves_flush, leaves_checkpoint}
use Rattle.storetexts.proofs.Stepping.{no_more_flush}

kept_flush : (m n : Machine) (r : Result ℕ Refusal) → Flushes m r n → KeepsAccepted m n
kept_flush m n (Ok v) step = subst (KeepsAccepted m) (sym step.1) (record { base = refl; base_version = refl; accepted = refl; durable = omega arith })
kept_flush m n (Err r) step = ⊎_elim
    (λ refused. subst (KeepsAccepted m) (sym refused.1) (record { base = refl; base_version = refl; accepted = refl; durable = omega arith }))
    (λ broke. subst (KeepsAccepted m) (sym broke.2) (record { base = refl; base_version = refl; accepted = refl; durable = omega arith })) step

module _ {D T : Type 0} (disk : Ghosts D) (old new : Applying D) (r : Result ℕ Refusal) (told : Result T Refusal) (ready : IsReady old.ledger.machine) (outcomes : new.outcomes ≡ old.outcomes) (so_far : new.told ≡ old.told) (given : new.ledger.given ≡ old.ledger.given) (honest : disk.honest new.ledger.disk ↔ disk.honest old.ledger.disk) (calm : OnOk told (new.ledger.machine.broken ≡ false)) (counted : disk.failures new.ledger.disk ≡ failures_told told (disk.failures old.ledger.disk)) where
  pub saves_flush : Flushes old.ledger.machine r new.ledger.machine
      → (CameTidy disk.honest disk.content old.ledger.given → old.ledger.machine.broken ≡ false
      → LeavesOnly disk.moment disk.left_since old.ledger.disk new.ledger.disk (IsDurableIn (failed old.ledger.machine (batch old.ledger.machine))))
      → Saves disk told old new
  saves_flush step leaves = record {
    goes = record {
      steady = steady_flush old.ledger.machine new.ledger.machine r step ready.steady;
      leaves = leaves_flush disk old.ledger new.ledger r step ready leaves;
      given = given;
      honest = honest;
      room = ap vec_capacity outcomes;
    };
    kept = kept_flush old.ledger.machine new.ledger.machine r step;
    no_more = no_more_flush old.ledger.machine new.ledger.machine r step;
    calm = calm;
    outcomes = outcomes;
    told = so_far;
    counted = counted;
  }

  pub saves_checkpoint : Checkpoints old.ledger.machine r new.ledger.machine → IfErr r (λ refusal. (refusal ≡ Device → ⊥) → new.ledger.machine ≡ old.ledger.machine)
      → (CameTidy disk.honest disk.content old.ledger.given → old.ledger.machine.broken ≡ false
      → LeavesOnly disk.moment disk.left_since old.ledger.disk new.ledger.disk (IsDurableIn old.ledger.machine))
      → Saves disk told old new
  saves_checkpoint does same leaves =
      let kept = kept_checkpoint old.ledger.machine new.ledger.machine r does in
      let as_many = pending_checkpoint old.ledger.machine new.ledger.machine r does in
      record {
        goes = record {
          steady = steady_checkpoint old.ledger.machine new.ledger.machine r does ready.calm same ready.steady;
          leaves = leaves_checkpoint disk old.ledger new.ledger kept ready leaves;
          given = given;
          honest = honest;
          room = ap vec_capacity outcomes;
        };
        kept = kept;
        no_more = omega (arith, as_many);
        calm = calm;
        outcomes = outcomes;
        told = so_far;
        counted = counted;
      }

-- one such call after another
pub saves_both : {D S T : Type 0} (disk : Ghosts D) (old mid new : Applying D) (first : Result S Refusal) (told : Result T Refusal)
    → Saves disk first old mid → disk.failures mid.ledger.disk ≡ disk.failures old.ledger.disk → Saves disk told mid new → Saves disk told old new
saves_both disk old mid new first told a none b = record {
  goes = goes_both disk old mid new a.goes b.goes;
  kept = kept_both old.ledger.machine mid.ledger.machine new.ledger.machine a.kept b.kept;
  no_more = let before = a.no_more in let after = b.no_more in omega (arith, before, after);
  calm = b.calm;
  outcomes = b.outcomes ∙ a.outcomes;
  told = b.told ∙ a.told;
  counted = b.counted ∙ ap (failures_told told) none;
}

-- no such call
pub saves_none : {D : Type 0} (disk : Ghosts D) (a : Applying D) → IsReady a.ledger.machine → Saves {T = Unit {0}} disk (Ok tt) a a
saves_none disk a ready = record {
  goes = goes_none disk a ready.steady;
  kept = record { base = refl; base_version = refl; accepted = refl; durable = omega arith };
  no_more = omega arith;
  calm = ready.calm;
  outcomes = refl;
  told = refl;
  counted = refl;
}
