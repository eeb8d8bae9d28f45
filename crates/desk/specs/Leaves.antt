-- What a gate gave leave for.
use Rattle.std.specs.Prelude.{ℕ}
use Rattle.desk.specs.declared.threads.leaves.Leave.{Leave}

-- the landmark whose row may be made
abbrev pub landmark_of : Leave → ℕ
landmark_of leave = leave.landmark
