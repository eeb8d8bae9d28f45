use Rattle.std.proofs.Common.{inr, ℕ, List, length, sym, subst}
use Rattle.std.proofs.lemmas.Result.{on_ok_weaker}
use Rattle.disk.specs.Contents.{PartlyWritten}
use Rattle.disk.specs.declared.mem_disk.Recorded.TheVariants.{Wrote}
use Rattle.disk.proofs.Overwritten.{overwritten_torn}
use Rattle.disk.proofs.OnRecord.{elapses, noted_follows, noted_synced}
use Rattle.disk.proofs.Places.{noted_written}
use Rattle.disk.proofs.Overwritten.{length-overwritten}
use Rattle.disk.proofs.mem_disk.write_recorded.Goals as goal

pub returns-clause-partly : goal.returns-clause-partly
returns-clause-partly c =
    let old = c.args.content.now.items in
    let at = c.args.at in
    on_ok_weaker c.overwrite_noted.result (λ is. subst (λ (new : List ℕ). PartlyWritten at (length c.args.bytes.now) old new) (sym is) (record {
      torn = overwritten_torn old c.args.bytes.now at c.requires;
      whole_length = inr (length-overwritten old c.args.bytes.now at c.requires);
    })) c.overwrite_noted.ensures.content

pub returns-clause-stop : goal.returns-clause-stop
returns-clause-stop c =
    on_ok_weaker c.overwrite_noted.result
    (λ noted. noted_follows c.args.content.now.items c.overwrite_noted.new.content.items c.args.at (length c.args.bytes.now) c.args.calls.now.items c.overwrite_noted.new.calls.items noted c.requires)
    c.overwrite_noted.ensures.noted

pub returns-clause-time : goal.returns-clause-time
returns-clause-time c =
    on_ok_weaker c.overwrite_noted.result
    (λ noted. elapses c.args.calls.now.items c.overwrite_noted.new.calls.items (Wrote noted.write) c.args.content.now.items c.overwrite_noted.new.content.items noted.noted noted.undone)
    c.overwrite_noted.ensures.noted

pub returns-clause-synced : goal.returns-clause-synced
returns-clause-synced c =
    on_ok_weaker c.overwrite_noted.result
    (λ noted. noted_synced c.args.content.now.items c.overwrite_noted.new.content.items c.args.at (length c.args.bytes.now) c.args.calls.now.items c.overwrite_noted.new.calls.items noted)
    c.overwrite_noted.ensures.noted

pub returns-clause-unsynced : goal.returns-clause-unsynced
returns-clause-unsynced c =
    on_ok_weaker c.overwrite_noted.result
    (λ noted. noted_written c.args.content.now.items c.overwrite_noted.new.content.items c.args.at (length c.args.bytes.now) c.args.calls.now.items c.overwrite_noted.new.calls.items noted)
    c.overwrite_noted.ensures.noted
