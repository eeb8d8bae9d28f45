-- What a call that is given one line answers.
use Rattle.std.specs.Prelude.{◌≡◌, List, [], ◌∷◌, ◌++◌, None, Some, Result, Ok, Err}
use Rattle.dimacs.specs.declared.fault.Code.{Code}
use Rattle.dimacs.specs.declared.fault.Code.TheVariants.{BadLine, NoProblemLine, SecondProblemLine, WrongKind, NumberRange, NodeRange, LengthRange, LineCount, TooLarge, Read, OutOfMemory, GroupSize, OpenGroup}
use Rattle.dimacs.specs.Faults.{Row, Judge}

-- which fact a code means: the first, unless the reader failed or memory ran out
abbrev pub ByCode : Code → Type 0 → Type 0 → Type 0 → Type 0
ByCode BadLine fault failed refused = fault
ByCode NoProblemLine fault failed refused = fault
ByCode SecondProblemLine fault failed refused = fault
ByCode WrongKind fault failed refused = fault
ByCode NumberRange fault failed refused = fault
ByCode NodeRange fault failed refused = fault
ByCode LengthRange fault failed refused = fault
ByCode LineCount fault failed refused = fault
ByCode TooLarge fault failed refused = fault
ByCode Read fault failed refused = failed
ByCode OutOfMemory fault failed refused = refused
ByCode GroupSize fault failed refused = fault
ByCode OpenGroup fault failed refused = fault

-- the same where nothing is read: no reader can fail
abbrev pub ByMemory : Code → Type 0 → Type 0 → Type 0
ByMemory code fault refused = ByCode code fault ⊥ refused

-- the line has no fault after the earlier ones and is taken, or its code is told; or it has no fault, and memory ran out
abbrev pub Takes : {S : Type 0} → Judge → (List Row → S → Type 0) → List Row → Row → S → Result (Unit {0}) Code → Type 0
Takes judge has_taken earlier row new (Ok done) = (judge earlier row ≡ None) × has_taken (earlier ++ row ∷ []) new
Takes judge has_taken earlier row new (Err code) = ByMemory code (judge earlier row ≡ Some code) (judge earlier row ≡ None)
