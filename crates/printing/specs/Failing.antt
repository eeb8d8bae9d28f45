-- What a call that failed counts, and what it leaves unwritten.
use Rattle.std.specs.Prelude.{◌≡◌, ℕ, zero, suc, Result, Ok, Err, ⊤}
use Rattle.roadnet.specs.declared.refusals.Refusal.TheVariants.{Write, Device}
use Rattle.dimacs.specs.declared.fault.Fault.{Fault}
use Rattle.dimacs.specs.Taking.{ByCode}
use Rattle.dimacs.specs.Counts.{one_more_failed}
use Rattle.printing.specs.declared.failed.Failed.{Failed}
use Rattle.printing.specs.declared.failed.Failed.TheVariants.{Text, Code}

-- what reading a text gave, its fault told of the text with this number
abbrev pub fault_told_of : {X : Type 0} → ℕ → Result X Fault → Result X Failed
fault_told_of which (Ok x) = Ok x
fault_told_of which (Err fault) = Err (Text which fault)

-- the reader's count of failed calls is one more where a failed read is told, and else as it was
abbrev pub CountsReads : {X : Type 0} → ℕ → ℕ → Result X Failed → Type 0
CountsReads old new (Ok x) = new ≡ old
CountsReads old new (Err (Text which fault)) = ByCode fault.code (new ≡ old) (new ≡ one_more_failed old) (new ≡ old)
CountsReads old new (Err (Code refusal)) = new ≡ old

-- the writer's count is one more where a failed write is told, and else as it was
abbrev pub CountsWrites : {X : Type 0} → ℕ → ℕ → Result X Failed → Type 0
CountsWrites old new (Ok x) = new ≡ old
CountsWrites old new (Err (Text which fault)) = new ≡ old
CountsWrites old new (Err (Code Write)) = new ≡ one_more_failed old
CountsWrites old new (Err (Code refusal)) = new ≡ old

-- a text has a fault
abbrev pub IsOfText : Failed → Type 0
IsOfText (Text which fault) = ⊤
IsOfText (Code refusal) = ⊥

-- nothing is written but where a write failed
abbrev pub LeavesUnwritten : {W : Type 0} → W → W → Failed → Type 0
LeavesUnwritten old new (Text which fault) = new ≡ old
LeavesUnwritten old new (Code Write) = ⊤
LeavesUnwritten old new (Code refusal) = new ≡ old

-- the count of the first reader's failed calls is one more where a failed read of its text is told, and else as it was
abbrev pub CountsFirst : {X : Type 0} → ℕ → ℕ → Result X Failed → Type 0
CountsFirst old new (Err (Text zero fault)) = ByCode fault.code (new ≡ old) (new ≡ one_more_failed old) (new ≡ old)
CountsFirst old new result = new ≡ old

-- the same of the second reader
abbrev pub CountsSecond : {X : Type 0} → ℕ → ℕ → Result X Failed → Type 0
CountsSecond old new (Err (Text (suc zero) fault)) = ByCode fault.code (new ≡ old) (new ≡ one_more_failed old) (new ≡ old)
CountsSecond old new result = new ≡ old

-- the same of the third reader
abbrev pub CountsThird : {X : Type 0} → ℕ → ℕ → Result X Failed → Type 0
CountsThird old new (Err (Text (suc (suc zero)) fault)) = ByCode fault.code (new ≡ old) (new ≡ one_more_failed old) (new ≡ old)
CountsThird old new result = new ≡ old

-- what holds where the disk failed
abbrev pub IfDevice : Failed → Type 0 → Type 0
IfDevice (Code Device) failed = failed
IfDevice other failed = ⊤
