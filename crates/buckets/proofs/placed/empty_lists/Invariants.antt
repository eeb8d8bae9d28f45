use Rattle.std.proofs.Common.{◌≡◌, ℕ, length, []}
use Rattle.buckets.specs.Rings.{bucket_nodes_of}
use Rattle.buckets.proofs.placed.empty_lists.Given as goal

abbrev pub invariant-loop-place : goal.invariant-loop-place
invariant-loop-place l = record { len : length l.lists.items ≡ l._place; empty : (p : ℕ) → bucket_nodes_of l.lists.items p ≡ [] }
