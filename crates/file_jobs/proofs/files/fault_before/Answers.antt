-- A fault that is told of the network is told as one of the first text.
use Rattle.std.proofs.Common.{◌≡◌, true, Result, Ok, Err, refl, inl, sym, subst}
use Rattle.dimacs.specs.declared.fault.Fault.{Fault}
use Rattle.printing.specs.Failing.{fault_told_of}
use Rattle.printing.specs.declared.failed.Failed.{Failed}
use Rattle.printing.specs.declared.failed.Failed.TheVariants.{Text}
use Rattle.file_jobs.specs.Failures.{is_of_first}
use Rattle.file_jobs.proofs.files.fault_before.Goals as goal

told : {X : Type 0} (r : Result X Fault) (failed : Failed) → ◌≡◌ {A = Result X Failed} (Err failed) (fault_told_of 0 r) → is_of_first failed ≡ true
told (Ok x) failed is = absurd cc
told (Err fault) failed is = let same : failed ≡ Text 0 fault = cc in subst (λ f. is_of_first f ≡ true) (sym same) refl

pub returns-in-Err : goal.returns-in-Err
returns-in-Err g c = inl (told c.read_gr.result c.in-Err.fault c.in-Err.ensures)
