use Rattle.std.proofs.Common.{◌≡◌, ◌⊎◌, ℕ, length, take, All, None}
use Rattle.relax.specs.Values.{value_at}
use Rattle.relax.proofs.tentative.Tentative.clear_all.Given as goal

-- the nodes so far have no value, and the others have theirs
abbrev pub invariant-loop-node : goal.invariant-loop-node
invariant-loop-node l = record {
  cleared : All (λ u. value_at l.self u ≡ None) (take l.node-index l.nodes);
  others : (u : ℕ) → (value_at l.self u ≡ None) ⊎ (value_at l.self u ≡ value_at l.fn.self u);
  places : length l.self ≡ length l.fn.self;
}
