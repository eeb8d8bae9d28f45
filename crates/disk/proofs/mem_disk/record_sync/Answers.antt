use Rattle.std.proofs.Common.{refl, ap, List}
use Rattle.std.proofs.lemmas.Result.{on_ok_weaker}
use Rattle.disk.specs.declared.mem_disk.Recorded.TheVariants.{Synced}
use Rattle.disk.specs.declared.mem_disk.Write.{Write}
use Rattle.disk.specs.Record.{is_written, before_writes}
use Rattle.disk.proofs.OnRecord.{elapses, synced_only, synced_among}
use Rattle.disk.proofs.Places.{none_after_sync}
use Rattle.disk.proofs.mem_disk.record_sync.Goals as goal

pub returns-clause-durable : goal.returns-clause-durable
returns-clause-durable c = on_ok_weaker c.note.result (λ noted now. synced_only c.args.calls.now.items c.note.new.calls.items now noted) c.note.ensures.ok

pub returns-clause-stop : goal.returns-clause-stop
returns-clause-stop c = on_ok_weaker c.note.result (λ noted now. synced_among c.args.calls.now.items c.note.new.calls.items now noted) c.note.ensures.ok

pub returns-clause-time : goal.returns-clause-time
returns-clause-time c = on_ok_weaker c.note.result (λ noted now. elapses c.args.calls.now.items c.note.new.calls.items Synced now now noted refl) c.note.ensures.ok

pub returns-clause-synced : goal.returns-clause-synced
returns-clause-synced c =
    on_ok_weaker c.note.result (λ noted now. ap (λ (ws : List Write). before_writes ws now) (none_after_sync c.args.calls.now.items c.note.new.calls.items noted)) c.note.ensures.ok

pub returns-clause-unsynced : goal.returns-clause-unsynced
returns-clause-unsynced c =
    on_ok_weaker c.note.result (λ noted i. ap (λ (ws : List Write). is_written ws i) (none_after_sync c.args.calls.now.items c.note.new.calls.items noted)) c.note.ensures.ok
