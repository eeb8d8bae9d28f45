use Rattle.std.proofs.Common.{ℕ, ◌<◌}
use Rattle.roadnet.specs.Batches.{changed_by_all}
use Rattle.keeper.proofs.Leads.{AreAlike}
use Rattle.keeper.proofs.networks.leading.lead_to.Given as goal

abbrev pub invariant-loop-k : goal.invariant-loop-k
invariant-loop-k l = (j : ℕ) → j < l.k → AreAlike (changed_by_all l.network l.groups) l.other j
