use Rattle.std.proofs.Common.{ℕ, List, sym, subst}
use Rattle.deltastep.specs.Repair.{AreChanged}
use Rattle.desk.proofs.threads.row_workers.RowJob.distances_of.Goals as goal

pub row_after-requires-clause-nodes : goal.row_after-requires-clause-nodes
row_after-requires-clause-nodes g c = (c.requires.before c.in-Some.before c.in-Some.is).nodes

pub row_after-requires-clause-old : goal.row_after-requires-clause-old
row_after-requires-clause-old g c = (c.in-Some.before.now.view.now.network, (c.requires.before c.in-Some.before c.in-Some.is).snapshot, c.in-Some-find_row.ensures)

pub row_after-requires-clause-changed : goal.row_after-requires-clause-changed
row_after-requires-clause-changed g c = subst (λ (l : List ℕ). AreChanged c.in-Some.before.now.snapshot.now c.args.self.now.snapshot.now l) (sym c.deref.ensures.value) (c.requires.before c.in-Some.before c.in-Some.is).changed

pub row_after-requires-clause-back_nodes : goal.row_after-requires-clause-back_nodes
row_after-requires-clause-back_nodes g c = (c.requires.before c.in-Some.before c.in-Some.is).back.nodes

pub row_after-requires-clause-tails : goal.row_after-requires-clause-tails
row_after-requires-clause-tails g c = (c.requires.before c.in-Some.before c.in-Some.is).back.tails
