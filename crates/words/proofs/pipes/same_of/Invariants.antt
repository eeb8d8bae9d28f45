use Rattle.std.proofs.Common.{◌<◌, ℕ}
use Rattle.words.specs.Pipes.{texts, StandsBefore}
use Rattle.words.proofs.pipes.same_of.Given as goal

-- no name so far stands before its place
abbrev pub invariant-loop-later : goal.invariant-loop-later
invariant-loop-later l = (later : ℕ) → later < l.later → ¬ StandsBefore (texts l.names) later
