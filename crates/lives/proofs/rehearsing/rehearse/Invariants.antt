use Rattle.std.proofs.Common.{◌≡◌, ◌+◌, ◌≤◌, length, take}
use Rattle.std.specs.Vec.{vec_len, vec_capacity}
use Rattle.disk.specs.declared.stoppable.Pick.{Pick}
use Rattle.machine.specs.LifeInRun.{within}
use Rattle.store.specs.State.{CameTidy}
use Rattle.lives.specs.Failures.{FailsAsTold}
use Rattle.lives.specs.Rehearsing.{first_of, IsGoing}
use Rattle.lives.proofs.Cut.{CutSoFar}
use Rattle.lives.proofs.rehearsing.rehearse.Given as goal

abbrev pub invariant-loop-event : goal.invariant-loop-event
invariant-loop-event g l = record {
  room : vec_len l.run.history + length l.run.life.keeper.machine.accepted ≤ vec_capacity l.run.history;
  goes : CameTidy g.D.Disk.honest g.D.Disk.content l.fn.store.given
      → IsGoing {P = Pick} g.D.Disk.honest g.D.Disk.content (first_of l.fn.store) (take l.event-index l.events) l.run.replies.items l.run.history.items l.run.life.keeper;
  cut : CameTidy g.D.Disk.honest g.D.Disk.content l.fn.store.given
      → CutSoFar g.D.Disk g.D.Stoppable (first_of l.fn.store) (take l.event-index l.events) l.run.replies.items
      (within (first_of l.fn.store).network (first_of l.fn.store).version l.run.history.items l.run.life.keeper.machine);
  delta : l.run.life.delta ≡ l.fn.delta;
  counted : FailsAsTold {P = Pick} (take l.event-index l.events) l.run.replies.items (g.D.Disk.failures l.fn.store.disk) (g.D.Disk.failures l.run.life.keeper.disk);
}
