use Rattle.std.proofs.Common.{◌∙◌, ℕ, List, sym, subst}
use Rattle.deltastep.specs.Repair.{AreChanged}
use Rattle.roadnet.proofs.EndsKept.{KeepsEnds-same}
use Rattle.search_tests.proofs.counting.repaired.Goals as goal

pub row_after-repaired-requires-clause-changed : goal.row_after-repaired-requires-clause-changed
row_after-repaired-requires-clause-changed c = subst (λ (l : List ℕ). AreChanged c.in_ok-older.older c.in_ok-newer.newer l) (sym c.deref.ensures.value) c.in-Ok-changed_nodes.ensures

pub row_after-repaired-requires-clause-tails : goal.row_after-repaired-requires-clause-tails
row_after-repaired-requires-clause-tails c = c.in-Ok-numbered_back.ensures.tails c.args.after.now c.in_ok-newer.newer c.nodes-2.ensures.grouped c.in_ok-newer.ensures.network (KeepsEnds-same c.args.after.now)

pub row_after-repaired-requires-clause-back_nodes : goal.row_after-repaired-requires-clause-back_nodes
row_after-repaired-requires-clause-back_nodes c = c.in-Ok-numbered_back.ensures.nodes ∙ sym c.in_ok-newer.ensures.network.nodes
