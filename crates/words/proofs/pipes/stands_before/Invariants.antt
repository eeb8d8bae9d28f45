use Rattle.std.proofs.Common.{◌≡◌, ◌<◌, ℕ, slice_get}
use Rattle.words.specs.Pipes.{texts}
use Rattle.words.proofs.pipes.stands_before.Given as goal

-- no earlier name so far is the same
abbrev pub invariant-loop-earlier : goal.invariant-loop-earlier
invariant-loop-earlier l = (earlier : ℕ) → earlier < l.earlier → slice_get (texts l.names) earlier ≡ slice_get (texts l.names) l.later → ⊥
