use Rattle.std.proofs.Common.{◌≡◌, ℕ, ◌<◌, ◌≤◌, get_or}
use Rattle.upgrades.specs.Ordered.{pair_at}
use Rattle.upgrades.proofs.ordered.end_of.Given as goal

abbrev pub invariant-loop-place : goal.invariant-loop-place
invariant-loop-place l = (i : ℕ) → l.from ≤ i → i < l.place → pair_at l.network.arcs (get_or l.numbers i 0) ≡ l.pair
