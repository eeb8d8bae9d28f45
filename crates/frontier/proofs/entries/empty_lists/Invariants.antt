use Rattle.std.proofs.Common.{◌≡◌, ℕ, length, []}
use Rattle.frontier.specs.Entries.{entries_at}
use Rattle.frontier.proofs.entries.empty_lists.Given as goal

abbrev pub invariant-loop-place : goal.invariant-loop-place
invariant-loop-place l = record { len : length l.lists.items ≡ l._place; empty : (p : ℕ) → entries_at l.lists.items p ≡ [] }
