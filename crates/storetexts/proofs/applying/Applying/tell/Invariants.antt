use Rattle.std.proofs.Common.{◌≡◌, ℕ, List, Option, take}
use Rattle.std.specs.Prelude.{All}
use Rattle.printing.specs.Counting.{failed_writes, writer_of, IsSameWriter}
use Rattle.storetexts.specs.Outcomes.{IsGroupSettled}
use Rattle.storetexts.specs.Applying.{LinesTold}
use Rattle.storetexts.proofs.applying.Applying.tell.Given as goal

abbrev pub invariant-loop-index : goal.invariant-loop-index
invariant-loop-index g l = record {
  ledger : l.self.ledger ≡ l.initial.self.ledger;
  outcomes : l.self.outcomes ≡ l.initial.self.outcomes;
  told : l.self.told ≡ l.index;
  settled : All (IsGroupSettled l.initial.self.ledger.machine.durable) (take l.initial.self.told l.initial.self.outcomes.items) → All (IsGroupSettled l.initial.self.ledger.machine.durable) (take l.index l.initial.self.outcomes.items);
  lines : (before : Option (List ℕ)) → LinesTold before (g.W.Write.contents (writer_of l.initial.out)) l.initial.self.outcomes.items l.initial.self.told → LinesTold before (g.W.Write.contents (writer_of l.out)) l.initial.self.outcomes.items l.index;
  counts : failed_writes l.out ≡ failed_writes l.initial.out;
  same : IsSameWriter l.initial.out l.out;
}
