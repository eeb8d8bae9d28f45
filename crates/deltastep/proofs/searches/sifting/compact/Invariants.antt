use Rattle.std.proofs.Common.{◌≡◌, ◌≤◌, ℕ, nat_lt, map, length}
use Rattle.std.proofs.lemmas.List.Filters.{FiltersInPlace}
use Rattle.deltastep.proofs.searches.sifting.compact.Given as goal

abbrev pub invariant-loop-place : goal.invariant-loop-place
invariant-loop-place l = record {
  kept : (f : ℕ → ℕ) → l.known ≡ map (λ (r : ℕ × ℕ). f r.0) l.fn.requests.items → FiltersInPlace (λ (r : ℕ × ℕ). nat_lt r.1 (f r.0)) l.fn.requests.items l.requests.items l.kept l.place;
  few : l.kept ≤ l.place;
  long : length l.requests.items ≡ length l.fn.requests.items;
}
