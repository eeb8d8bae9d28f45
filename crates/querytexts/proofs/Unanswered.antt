-- A call that ended without its answer.
use Rattle.std.proofs.Common.{Result, Ok, Err}
use Rattle.std.specs.Prelude.{IfErr}
use Rattle.roadnet.specs.declared.refusals.Refusal.{Refusal}
use Rattle.printing.specs.declared.failed.Failed.{Failed}
use Rattle.printing.specs.declared.failed.Failed.TheVariants.{Text, Code}
use Rattle.querytexts.specs.Once.{IsUnanswered}

-- what holds of each refusal without an answer holds of the call's
pub kind_of : {X : Type 0} (P : Failed → Type 0) (r : Result X Failed) → ((refusal : Refusal) → IsUnanswered (Code refusal) → P (Code refusal)) → IfErr r IsUnanswered → IfErr r P
kind_of P (Ok done) code h = tt
kind_of P (Err (Text which fault)) code h = absurd h
kind_of P (Err (Code refusal)) code h = code refusal h
