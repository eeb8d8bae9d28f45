-- A writer with the count of its failed calls.
use Rattle.std.specs.Prelude.{◌≡◌, ℕ, Result, Ok, Err}
use Rattle.dimacs.specs.Counts.{one_more_failed}
use Rattle.printing.specs.declared.writer.CountedWriter.{CountedWriter}

-- the count, and the writer
abbrev pub failed_writes : {W : Type 0} → CountedWriter W → ℕ
failed_writes c = c.failed

abbrev pub writer_of : {W : Type 0} → CountedWriter W → W
writer_of c = c.writer.now

abbrev pub IsSameWriter : {W : Type 0} → CountedWriter W → CountedWriter W → Type 0
IsSameWriter old new = new.writer.ghost_name ≡ old.writer.ghost_name

-- the count has gone up by one where a call failed, and else it is as it was
abbrev pub CountsFailure : {X E : Type 0} → ℕ → ℕ → Result X E → Type 0
CountsFailure old new (Ok x) = new ≡ old
CountsFailure old new (Err e) = new ≡ one_more_failed old
