-- A reader with the count of its failed calls.
use Rattle.std.specs.Prelude.{◌≡◌, ℕ, ◌+◌, ◌-◌, ◌^◌, min, List, [], ◌∷◌, Option, None, Some, Result, Ok, Err}
use Rattle.std.specs.Io.KnownBytes.{Keeps, Consumes, IsAtEnd}
use Rattle.dimacs.specs.declared.fault.Fault.{Fault}
use Rattle.dimacs.specs.declared.lines.counted.Counted.{Counted}
use Rattle.dimacs.specs.Taking.{ByCode}

-- the count, the reader, and the name by which it is known to be the same reader
abbrev pub failed_calls : {R : Type 0} → Counted R → ℕ
failed_calls c = c.failed

abbrev pub reader_of : {R : Type 0} → Counted R → R
reader_of c = c.reader.now

abbrev pub IsSameReader : {R : Type 0} → Counted R → Counted R → Type 0
IsSameReader old new = new.reader.ghost_name ≡ old.reader.ghost_name

-- the count after one more failed call
abbrev pub one_more_failed : ℕ → ℕ
one_more_failed n = min (n + 1) (2 ^ 64 - 1)

-- the count has gone up by one where the answer is the fault of a failed call, and else it is as it was
abbrev pub CountsFailures : {X : Type 0} → ℕ → ℕ → Result X Fault → Type 0
CountsFailures old new (Ok x) = new ≡ old
CountsFailures old new (Err fault) = ByCode fault.code (new ≡ old) (new ≡ one_more_failed old) (new ≡ old)

-- the same of a call whose one error is a failed call
abbrev pub CountsCall : {X E : Type 0} → ℕ → ℕ → Result X E → Type 0
CountsCall old new (Ok x) = new ≡ old
CountsCall old new (Err e) = new ≡ one_more_failed old

-- what a reader had left and has left, where one byte was taken, or there was none, or the reader failed
abbrev pub TakesByte : {E : Type 0} → Option (List ℕ) → Option (List ℕ) → Result (Option ℕ) E → Type 0
TakesByte old new (Ok (Some byte)) = Consumes old new (byte ∷ [])
TakesByte old new (Ok None) = IsAtEnd old × Keeps old new
TakesByte old new (Err e) = Keeps old new
