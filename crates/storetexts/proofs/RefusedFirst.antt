-- Refusals before any command was taken, and later ones.
use Rattle.std.proofs.Common.{◌≡◌, ⊎_elim, ℕ, Result, Ok, Err}
use Rattle.std.specs.Prelude.{IfErr}
use Rattle.roadnet.specs.declared.refusals.Refusal.{Refusal}
use Rattle.roadnet.specs.declared.refusals.Refusal.TheVariants.{NotAStore, WrongFormat, Damaged, OutOfMemory, Device}
use Rattle.printing.specs.declared.failed.Failed.{Failed}
use Rattle.printing.specs.declared.failed.Failed.TheVariants.{Text, Code}
use Rattle.storetexts.specs.Applied.{IfTextOrFileRefused}
use Rattle.storetexts.specs.Applying.{IsCutOffBy}
use Rattle.store.specs.Opening.{IsPassing}

pub text_or_file_refused : (failed : Failed) (P : Type 0) → P → IfTextOrFileRefused failed P
text_or_file_refused (Text which fault) P p = p
text_or_file_refused (Code NotAStore) P p = p
text_or_file_refused (Code WrongFormat) P p = p
text_or_file_refused (Code (Damaged page)) P p = p
text_or_file_refused (Code _) P p = tt

no_store : IsPassing NotAStore → ⊥
no_store h = ⊎_elim (λ (e : ◌≡◌ {A = Refusal} NotAStore OutOfMemory). absurd cc) (λ (e : ◌≡◌ {A = Refusal} NotAStore Device). absurd cc) h

no_format : IsPassing WrongFormat → ⊥
no_format h = ⊎_elim (λ (e : ◌≡◌ {A = Refusal} WrongFormat OutOfMemory). absurd cc) (λ (e : ◌≡◌ {A = Refusal} WrongFormat Device). absurd cc) h

no_damage : (page : ℕ) → IsPassing (Damaged page) → ⊥
no_damage page h = ⊎_elim (λ (e : ◌≡◌ {A = Refusal} (Damaged page) OutOfMemory). absurd cc) (λ (e : ◌≡◌ {A = Refusal} (Damaged page) Device). absurd cc) h

begun : (failed : Failed) (P : Type 0) → IsCutOffBy failed → IfTextOrFileRefused failed P
begun (Text which fault) P h = absurd h
begun (Code NotAStore) P h = absurd (no_store h)
begun (Code WrongFormat) P h = absurd (no_format h)
begun (Code (Damaged page)) P h = absurd (no_damage page h)
begun (Code _) P h = tt

pub cut_off_later : {X : Type 0} (r : Result X Failed) (P : Type 0) → IfErr r IsCutOffBy → IfErr r (λ failed. IfTextOrFileRefused failed P)
cut_off_later (Ok done) P h = tt
cut_off_later (Err failed) P h = begun failed P h
