-- What is told where the third text can't be opened.
use Rattle.std.proofs.Common.{◌≡◌, ◌⊎◌, true, inl, inr, subst, sym, ⊎_elim}
use Rattle.printing.specs.declared.failed.Failed.{Failed}
use Rattle.file_jobs.specs.Failures.{is_of_first, IsFaultOf, IsTableUnread, IsFileUnopened}
use Rattle.file_jobs.proofs.files.open_table.Goals as goal

unread : (failed told : Failed) → IsFileUnopened 2 failed → (is_of_first told ≡ true) ⊎ (IsFaultOf 1 told ⊎ (told ≡ failed)) → IsTableUnread told
unread failed told unopened fault = ⊎_elim
    (λ (first : is_of_first told ≡ true). inl (inl first))
    (λ (rest : IsFaultOf 1 told ⊎ (told ≡ failed)). ⊎_elim (λ (second : IsFaultOf 1 told). inr (inl second)) (λ (same : told ≡ failed). inr (inr (subst (IsFileUnopened 2) (sym same) unopened))) rest)
    fault

pub returns-in-Err : goal.returns-in-Err
returns-in-Err g c = unread c.in-Err.failed c.fault_before.result c.in-Err.ensures c.fault_before.ensures
