use Rattle.std.proofs.Common.{◌≤◌, ◌+◌, ◌^◌, length}
use Rattle.storefile.specs.StoreFile.{page}
use Rattle.storefile.specs.Judging.{journal_from}
use Rattle.pagereader.proofs.Unchanged.{HasRead}
use Rattle.store.proofs.Replayed.{PagesSoFar}
use Rattle.store.proofs.opened.replay.replay.Given as goal

abbrev pub invariant-loop-i : goal.invariant-loop-i
invariant-loop-i g l = record {
  said : g.D.Disk.honest l.fn.disk → PagesSoFar (journal_from (page (g.D.Disk.content l.fn.disk)) l.header l.header.journal_pages l.from l.version l.fn.network) (page (g.D.Disk.content l.fn.disk)) l.header l.from l.version l.i l.reached l.network;
  fits : l.reached ≤ 2 ^ 48;
  later : l.version + l.i ≤ l.reached;
  grows : length l.fn.network.arcs ≤ length l.network.arcs;
  read : HasRead g.D.Disk l.fn.disk l.disk;
}
