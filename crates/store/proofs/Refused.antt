-- What a refused opening says of the file.
use Rattle.std.proofs.Common.{◌≡◌, inl, inr, ⊎_elim, ℕ, List, length, Result, Ok, Err, sym, ap, ◌∙◌}
use Rattle.roadnet.specs.declared.refusals.Refusal.{Refusal}
use Rattle.pages.specs.declared.content.Format.{Format}
use Rattle.storefile.specs.StoreFile.{page}
use Rattle.storefile.specs.Judging.{opened, opened_in, refusal_in}
use Rattle.storefile.proofs.Opening.{opened_whole}
use Rattle.pagereader.specs.Outcomes.{MayRefuse}
use Rattle.store.specs.Opening.{IsPassing, MayRefuseToOpen, IsStoreFile}

pub as_judged : (file : List ℕ) (refusal : Refusal) → MayRefuse (opened file) refusal → MayRefuseToOpen file refusal
as_judged file refusal may = ⊎_elim (λ memory. inl (inl memory)) (λ other. ⊎_elim (λ device. inl (inr device)) (λ is. inr (ap refusal_in is)) other) may

ok_not_err : {X : Type 0} (x : X) (d : Refusal) → ◌≡◌ {A = Result X Refusal} (Ok x) (Err d) → ⊥
ok_not_err x d e = absurd cc

both_ways : {X : Type 0} (r : Result X Refusal) (x : X) (d : Refusal) → r ≡ Ok x → r ≡ Err d → ⊥
both_ways r x d p q = ok_not_err x d (sym p ∙ q)

opened_so : (file : List ℕ) (stands : IsStoreFile file) → opened file ≡ Ok (stands.3.0, stands.0)
opened_so file stands = ap (λ (f : Format). opened_in f file) (sym stands.3.2) ∙ opened_whole (length file) (page file) stands.3.0 stands.0 stands.3.1.is stands.3.1.gives.network

-- what stands for something is refused passingly alone
pub passes : (file : List ℕ) (refusal : Refusal) → IsStoreFile file → MayRefuse (opened file) refusal → IsPassing refusal
passes file refusal stands may = ⊎_elim (λ memory. inl memory) (λ other. ⊎_elim (λ device. inr device) (λ (is : opened file ≡ Err refusal).
    absurd (both_ways (opened file) (stands.3.0, stands.0) refusal (opened_so file stands) is)) other) may
