use Rattle.std.proofs.Common.{◌≡◌, ℕ, ◌-◌, Global, Vec, [], get_or, length, map}
use Rattle.frontier.proofs.paged.PagedFlags.new.Given as goal

abbrev pub invariant-loop-alloc : goal.invariant-loop-alloc
invariant-loop-alloc l = (k : ℕ) → get_or (map (λ (page : Vec ℕ Global). page.items) l.pages.items) k [] ≡ []

abbrev pub decreases-loop-alloc : goal.decreases-loop-alloc
decreases-loop-alloc l = l.count - length l.pages.items
