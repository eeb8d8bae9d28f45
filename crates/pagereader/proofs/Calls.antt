-- One call of a disk after another, as contracts say what they do.
use Rattle.std.proofs.Common.{◌≡◌, ℕ, List, Result, Ok, Err, sym, ap, ◌∙◌, subst}
use Rattle.std.specs.Prelude.{◌↔◌}
use Rattle.disk.specs.declared.disk.Disk.{Ghosts}
use Rattle.disk.specs.Calling.{ReadsDisk, WritesUnsynced, WritesDisk}
use Rattle.disk.specs.Contents.{one_more, failures_after}
use Rattle.disk.proofs.Steps.{same_twice, weaker, and_then, then_nothing}
use Rattle.roadnet.specs.declared.refusals.Refusal.{Refusal}
use Rattle.pagereader.specs.Outcomes.{failures_told, failures_with}
use Rattle.pagereader.specs.Reading.{ReadsToOpen}

-- the count of failures after a call that failed
pub failed_counted : {T E : Type 0} (result : Result T E) (e : E) (before now : ℕ) → result ≡ Err e → now ≡ one_more before → now ≡ failures_after result before
failed_counted {T} {E} result e before now is counted = subst (λ (r : Result T E). now ≡ failures_after r before) (sym is) counted

module _ {D : Type 0} (disk : Ghosts D) where
  honest_twice : (old mid new : D) → (disk.honest mid ↔ disk.honest old) → (disk.honest new ↔ disk.honest mid) → disk.honest new ↔ disk.honest old
  honest_twice old mid new first second = (λ h. first.0 (second.0 h), λ h. second.1 (first.1 h))

  -- ---- calls of opening

  pub reads_then : {T U : Type 0} (t : T) (result : Result U Refusal) (old mid new : D) → ReadsToOpen {T = T} disk (Ok t) old mid → ReadsToOpen disk result mid new → ReadsToOpen disk result old new
  reads_then t result old mid new first second = record {
    causes = second.causes;
    same = λ h. same_twice disk.moment disk.left_since disk.content disk.left old mid new (first.same h) (second.same (first.honest.1 h));
    counted = second.counted ∙ ap (failures_told result) first.counted;
    honest = honest_twice old mid new first.honest second.honest;
  }

  -- the second of them refuses, and this is passed on
  pub reads_then_refuses : {T U V : Type 0} (t : T) (refusal : Refusal) (old mid new : D) → ReadsToOpen {T = T} disk (Ok t) old mid → ReadsToOpen {T = U} disk (Err refusal) mid new → ReadsToOpen {T = V} disk (Err refusal) old new
  reads_then_refuses t refusal old mid new first second = record {
    causes = second.causes;
    same = λ h. same_twice disk.moment disk.left_since disk.content disk.left old mid new (first.same h) (second.same (first.honest.1 h));
    counted = second.counted ∙ ap (failures_with refusal) first.counted;
    honest = honest_twice old mid new first.honest second.honest;
  }

  -- ---- calls that write

  pub unsynced_weaker : {T E : Type 0} (P Q : List ℕ → Type 0) (result : Result T E) (old new : D) → WritesUnsynced disk P result old new → ((c : List ℕ) → P c → Q c) → WritesUnsynced disk Q result old new
  unsynced_weaker P Q result old new writes within = record {
    any_moment = λ h. weaker disk.moment disk.left_since old new P Q (writes.any_moment h) within;
    counted = writes.counted;
    honest = writes.honest;
  }

  pub unsynced_then_reads : {T E U F : Type 0} (P : List ℕ → Type 0) (t : T) (result : Result U F) (old mid new : D)
      → WritesUnsynced {T = T} {E = E} disk P (Ok t) old mid → ReadsDisk disk result mid new → WritesUnsynced disk P result old new
  unsynced_then_reads P t result old mid new first second = record {
    any_moment = λ h. then_nothing disk.moment disk.left_since old mid new P (first.any_moment h) (second.same (first.honest.1 h)).adds_nothing;
    counted = second.counted ∙ ap (failures_after result) first.counted;
    honest = honest_twice old mid new first.honest second.honest;
  }

  -- the failure of a call is passed on
  pub unsynced_fails : {T E U F : Type 0} (P : List ℕ → Type 0) (e : E) (f : F) (result : Result U F) (old new : D) → result ≡ Err f
      → WritesUnsynced {T = T} {E = E} disk P (Err e) old new → WritesDisk disk P result old new
  unsynced_fails {T} {E} {U} {F} P e f result old new is writes = subst (λ (r : Result U F). WritesDisk disk P r old new) (sym is) (record {
    any_moment = writes.any_moment;
    at_rest = λ h. tt;
    counted = writes.counted;
    honest = writes.honest;
  })

  pub unsynced_then_writes : {T E U F : Type 0} (P Q : List ℕ → Type 0) (t : T) (result : Result U F) (old mid new : D)
      → WritesUnsynced {T = T} {E = E} disk P (Ok t) old mid → WritesDisk disk Q result mid new → (disk.honest old → (c : List ℕ) → Q c → P c) → WritesDisk disk P result old new
  unsynced_then_writes P Q t result old mid new first second within = record {
    any_moment = λ h. and_then disk.moment disk.left_since old mid new P Q (first.any_moment h) (second.any_moment (first.honest.1 h)) (within h);
    at_rest = λ h. second.at_rest (first.honest.1 h);
    counted = second.counted ∙ ap (failures_after result) first.counted;
    honest = honest_twice old mid new first.honest second.honest;
  }
