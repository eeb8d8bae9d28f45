use Rattle.std.proofs.Common.{◌≡◌, ◌-◌, ◌≤◌}
use Rattle.pages.specs.Layout.{slot_pages}
use Rattle.checkpoint.proofs.SlotPages.{IsGoing}
use Rattle.checkpoint.proofs.writing.NextCheckpoint.write_parts.Given as goal

abbrev pub invariant-loop-self : goal.invariant-loop-self
invariant-loop-self g l = record {
  same : l.self ≡ record l.fn.self { written = l.self.written };
  within : l.self.written ≤ slot_pages l.header;
  going : g.D.Disk.honest l.fn.disk → IsGoing g.D.Disk.content g.D.Disk.left g.D.Disk.moment g.D.Disk.left_since l.header l.fn.self.slot l.network l.fn.disk l.disk l.self.written;
  counted : g.D.Disk.failures l.disk ≡ g.D.Disk.failures l.fn.disk;
  to_new : g.D.Disk.honest l.fn.disk → g.D.Disk.honest l.disk;
  to_old : g.D.Disk.honest l.disk → g.D.Disk.honest l.fn.disk;
}

abbrev pub decreases-loop-self : goal.decreases-loop-self
decreases-loop-self g l = slot_pages l.header - l.self.written
