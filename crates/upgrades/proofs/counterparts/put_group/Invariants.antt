use Rattle.std.proofs.Common.{◌≡◌, ℕ, ◌<◌, get_or, length}
use Rattle.upgrades.specs.Counterparts.{SaysParts}
use Rattle.upgrades.proofs.counterparts.put_group.Given as goal

abbrev pub invariant-loop-i : goal.invariant-loop-i
invariant-loop-i l = record {
  kept : (part : ℕ → ℕ) → SaysParts l.group l.stored part → (k : ℕ) → get_or l.initial.parts.items k 0 ≡ part k → get_or l.parts.items k 0 ≡ part k;
  put : (part : ℕ → ℕ) → SaysParts l.group l.stored part → (j : ℕ) → j < l.i → get_or l.parts.items (get_or l.group j 0) 0 ≡ part (get_or l.group j 0);
  count : length l.parts.items ≡ length l.initial.parts.items;
}
