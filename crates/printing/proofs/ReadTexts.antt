-- A text that was read: what holds of the answer, as a call hands it on, holds of its value.
use Rattle.std.proofs.Common.{◌≡◌, ℕ, Result, Ok, Err, sym, subst}
use Rattle.dimacs.specs.declared.fault.Fault.{Fault}
use Rattle.dimacs.specs.Texts.{map_ok}
use Rattle.printing.specs.Failing.{fault_told_of}
use Rattle.printing.specs.declared.failed.Failed.{Failed}

pub value_read : {Y : Type 0} (which : ℕ) (r : Result Y Fault) (y : Y) → ◌≡◌ {A = Result Y Failed} (Ok y) (fault_told_of which r) → (K : Result Y Fault → Type 0) → K r → K (Ok y)
value_read which (Ok x) y is K said = let same : y ≡ x = cc in subst (λ v. K (Ok v)) (sym same) said
value_read which (Err fault) y is K said = absurd cc

-- the same of a function of the answer
pub value_of : {X Y : Type 0} (items : Y → X) (which : ℕ) (r : Result Y Fault) (y : Y) → ◌≡◌ {A = Result Y Failed} (Ok y) (fault_told_of which r) → (K : Result X Fault → Type 0) → K (map_ok items r) → K (Ok (items y))
value_of items which r y is K said = value_read which r y is (λ answer. K (map_ok items answer)) said
