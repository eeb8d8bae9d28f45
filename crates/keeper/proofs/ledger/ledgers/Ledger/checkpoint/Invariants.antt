use Rattle.std.proofs.Common.{◌≡◌, ◌≤◌, false, None}
use Rattle.std.specs.Prelude.{◌↔◌}
use Rattle.disk.specs.Moments.{LeavesOnly}
use Rattle.store.specs.State.{CameTidy}
use Rattle.machine.specs.Lives.{GoesOn}
use Rattle.machine.proofs.Checkpoints.{IsLeftAfter}
use Rattle.keeper.specs.Keeping.{IsDurableIn}
use Rattle.keeper.proofs.ledger.ledgers.Ledger.checkpoint.Given as goal

abbrev pub invariant-loop : goal.invariant-loop
invariant-loop g l = record {
  goes : GoesOn l.counter l.initial.self.machine l.self.machine;
  left : IsLeftAfter l.counter l.self.machine;
  sizes : l.self.machine.sizes ≡ l.initial.self.machine.sizes;
  first : l.counter ≡ 0 → l.self ≡ l.initial.self;
  later : 1 ≤ l.counter → (l.initial.self.machine.broken ≡ false) × (l.self.machine.broken ≡ false) × (l.self.machine.checkpoint ≡ None → ⊥);
  counted : g.D.Disk.failures l.self.disk ≡ g.D.Disk.failures l.initial.self.disk;
  given : l.self.given ≡ l.initial.self.given;
  run : CameTidy g.D.Disk.honest g.D.Disk.content l.initial.self.given → l.initial.self.machine.broken ≡ false
      → LeavesOnly g.D.Disk.moment g.D.Disk.left_since l.initial.self.disk l.self.disk (IsDurableIn l.initial.self.machine);
  honest : g.D.Disk.honest l.self.disk ↔ g.D.Disk.honest l.initial.self.disk;
}
