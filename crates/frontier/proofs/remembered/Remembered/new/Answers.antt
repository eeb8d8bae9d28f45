use Rattle.std.proofs.Common.{ℕ, Global, Vec, map}
use Rattle.frontier.proofs.Flags.{AreFlags-none}
use Rattle.frontier.proofs.remembered.Remembered.new.Goals as goal

pub invariant_of-result : goal.invariant_of-result
invariant_of-result c = AreFlags-none (map (λ (page : Vec ℕ Global). page.items) c.in_ok-new.field-0.pages.items) c.new-2.result.items c.in_ok-new.ensures.down c.new-2.ensures.items
