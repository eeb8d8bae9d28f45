-- What reading a text gave, as a call hands it on.
use Rattle.std.proofs.Common.{◌≡◌, ℕ, Result, Ok, Err, sym, subst}
use Rattle.dimacs.specs.declared.fault.Fault.{Fault}
use Rattle.dimacs.specs.Texts.{map_ok}
use Rattle.printing.specs.Failing.{fault_told_of}
use Rattle.printing.specs.declared.failed.Failed.{Failed}
use Rattle.printing.specs.declared.failed.Failed.TheVariants.{Text}

-- what holds of the answer holds of a fault
pub fault_of : {X Y : Type 0} (items : Y → X) (which : ℕ) (r : Result Y Fault) (failed : Failed) → ◌≡◌ {A = Result Y Failed} (Err failed) (fault_told_of which r) → (K : Result X Fault → Type 0) → K (map_ok items r)
    → (P : Failed → Type 0) → ((fault : Fault) → K (Err fault) → P (Text which fault)) → P failed
fault_of items which (Ok x) failed is K said P f = absurd cc
fault_of items which (Err fault) failed is K said P f = let same : failed ≡ Text which fault = cc in subst P (sym same) (f fault said)
