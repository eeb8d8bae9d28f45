-- What follows from the answer of a call.
use Rattle.std.proofs.Common.{◌≡◌, inl, inr, ⊎_elim, Result, Ok, Err, sym, ◌∙◌}
use Rattle.std.specs.Prelude.{IfOk, IfErr}
use Rattle.roadnet.specs.declared.refusals.Refusal.{Refusal}
use Rattle.pagereader.specs.Outcomes.{MayLack, MayRefuse}

-- a call that answers what is said
pub ok_said : {Y : Type 0} (said result : Result Y Refusal) → said ≡ result → IfOk result (λ y. said ≡ Ok y)
ok_said said (Ok y) e = e
ok_said said (Err d) e = tt

pub err_said : {Y : Type 0} (said result : Result Y Refusal) → said ≡ result → IfErr result (λ refusal. MayRefuse said refusal)
err_said said (Ok y) e = tt
err_said said (Err d) e = inr (inr e)

pub may_refuse : {Y : Type 0} (said : Result Y Refusal) (refusal : Refusal) → MayLack said refusal → MayRefuse said refusal
may_refuse said refusal lacks = ⊎_elim (λ memory. inl memory) (λ is. inr (inr is)) lacks

-- what may be refused at a part of what is said may be refused at the whole
pub may_refuse_whole : {X Y : Type 0} (part : Result X Refusal) (whole : Result Y Refusal) (refusal : Refusal) → (part ≡ Err refusal → whole ≡ Err refusal) → MayRefuse part refusal → MayRefuse whole refusal
may_refuse_whole part whole refusal stops may = ⊎_elim (λ memory. inl memory) (λ other. ⊎_elim (λ device. inr (inl device)) (λ is. inr (inr (stops is))) other) may

pub may_lack_whole : {X Y : Type 0} (part : Result X Refusal) (whole : Result Y Refusal) (refusal : Refusal) → (part ≡ Err refusal → whole ≡ Err refusal) → MayLack part refusal → MayRefuse whole refusal
may_lack_whole part whole refusal stops may = ⊎_elim (λ memory. inl memory) (λ is. inr (inr (stops is))) may

-- where the calls before said the same of another term
pub if_err_may : {X Y : Type 0} (said : Result Y Refusal) (other : Result Y Refusal) (result : Result X Refusal) → other ≡ said → IfErr result (λ refusal. MayLack other refusal) → IfErr result (λ refusal. MayRefuse said refusal)
if_err_may said other (Ok x) same may = tt
if_err_may said other (Err d) same may = may_lack_whole other said d (λ is. sym same ∙ is) may
