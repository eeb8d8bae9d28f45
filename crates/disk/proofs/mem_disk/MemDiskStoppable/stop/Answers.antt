use Rattle.std.proofs.Common.{List, subst}
use Rattle.disk.specs.declared.mem_disk.Recorded.{Recorded}
use Rattle.disk.specs.Record.{unsynced, MayLeave}
use Rattle.disk.proofs.OnRecord.{none_written, picks_left}
use Rattle.disk.proofs.mem_disk.MemDiskStoppable.stop.Goals as goal

pub returns-clause-left : goal.returns-clause-left
returns-clause-left c _ =
    picks_left c.args.picks.now (unsynced c.args.self.now.calls.items) c.args.self.now.content.items c.restart.new.content.items c.restart.ensures.picks

pub returns-clause-synced : goal.returns-clause-synced
returns-clause-synced c _ x left =
    none_written c.restart.new.content.items x (subst (λ (cs : List Recorded). MayLeave (unsynced cs) c.restart.new.content.items x) c.restart.ensures.record left)
