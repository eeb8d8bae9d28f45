-- A fault that is told of a text is told by its number.
use Rattle.std.proofs.Common.{◌≡◌, ◌⊎◌, ℕ, Result, Ok, Err, refl, inl, inr, sym, subst}
use Rattle.dimacs.specs.declared.fault.Fault.{Fault}
use Rattle.printing.specs.Failing.{fault_told_of}
use Rattle.printing.specs.declared.failed.Failed.{Failed}
use Rattle.printing.specs.declared.failed.Failed.TheVariants.{Text}
use Rattle.file_jobs.specs.Failures.{IsFaultOf}
use Rattle.file_jobs.proofs.files.fault_of_sources.Goals as goal
use Rattle.file_jobs.proofs.files.fault_of_sources.Goals.{in-Ok, in-Err}

told : {X : Type 0} (which : ℕ) (r : Result X Fault) (failed : Failed) → ◌≡◌ {A = Result X Failed} (Err failed) (fault_told_of which r) → IsFaultOf which failed
told which (Ok x) failed is = absurd cc
told which (Err fault) failed is = let same : failed ≡ Text which fault = cc in subst (IsFaultOf which) (sym same) refl

pub returns : goal.returns
returns g c = elim c.match-of_text.branch [
  | in-Ok w ↦ inr w.result-is
  | in-Err w ↦ subst (λ f. IsFaultOf c.args.which f ⊎ (f ≡ c.args.failed)) (sym w.result-is) (inl (told c.args.which c.read_nodes.result w.in-Err.fault w.in-Err.ensures))
]
