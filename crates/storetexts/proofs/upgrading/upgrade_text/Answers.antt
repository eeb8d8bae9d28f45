use Rattle.std.proofs.Common.{refl}
use Rattle.printing.specs.declared.failed.Failed.TheVariants.{Code}
use Rattle.storetexts.proofs.Made.{memory_first, memory_second}
use Rattle.storetexts.proofs.Moved.{still_unwritten}
use Rattle.storetexts.proofs.Upgraded.{making_refused, maps_counts, maps_not_empty, maps_refused, maps_undone, stored_counts, stored_not_empty, stored_refused, stored_undone, told_upgrade, upgraded_store}
use Rattle.storetexts.proofs.upgrading.upgrade_text.Goals as goal

pub returns-in-Err-clause-made : goal.returns-in-Err-clause-made
returns-in-Err-clause-made g c old_honest new_honest = maps_undone c.in-Err.failed c.in-Err.ensures.kinds _

pub returns-in-Err-clause-empty : goal.returns-in-Err-clause-empty
returns-in-Err-clause-empty g c honest = maps_undone c.in-Err.failed c.in-Err.ensures.kinds _

pub returns-in-Err-clause-refused : goal.returns-in-Err-clause-refused
returns-in-Err-clause-refused g c = maps_refused (g.O.Disk.honest c.args.stored) (g.O.Disk.content c.args.stored) _ _ c.args.room (g.P.Text.source c.read_maps.new.before) (g.Q.Text.source c.read_maps.new.after) c.in-Err.failed c.in-Err.ensures.refused

pub returns-in-Err-clause-writes : goal.returns-in-Err-clause-writes
returns-in-Err-clause-writes g c = record { writes = maps_counts c.in-Err.failed c.in-Err.ensures.kinds _; same = refl }

pub returns-in-Err-upgrade_stored-clause-made : goal.returns-in-Err-upgrade_stored-clause-made
returns-in-Err-upgrade_stored-clause-made g c old_honest new_honest = stored_undone (g.O.Disk.honest c.args.stored) (g.O.Disk.content c.args.stored) c.in-Ok.maps.0 c.in-Err-upgrade_stored.refusal _ c.in-Err-upgrade_stored.ensures.refused

pub returns-in-Err-upgrade_stored-clause-empty : goal.returns-in-Err-upgrade_stored-clause-empty
returns-in-Err-upgrade_stored-clause-empty g c honest = stored_undone (g.O.Disk.honest c.args.stored) (g.O.Disk.content c.args.stored) c.in-Ok.maps.0 c.in-Err-upgrade_stored.refusal _ c.in-Err-upgrade_stored.ensures.refused

pub returns-in-Err-upgrade_stored-clause-refused : goal.returns-in-Err-upgrade_stored-clause-refused
returns-in-Err-upgrade_stored-clause-refused g c =
    stored_refused (g.O.Disk.honest c.args.stored) (g.O.Disk.content c.args.stored) _ _ c.args.room (g.P.Text.source c.read_maps.new.before) (g.Q.Text.source c.read_maps.new.after) c.in-Ok.maps.0 c.in-Ok.maps.1 c.in-Err-upgrade_stored.refusal c.in-Ok.ensures.maps c.in-Err-upgrade_stored.ensures.refused

pub returns-in-Err-upgrade_stored-clause-writes : goal.returns-in-Err-upgrade_stored-clause-writes
returns-in-Err-upgrade_stored-clause-writes g c = record { writes = stored_counts (g.O.Disk.honest c.args.stored) (g.O.Disk.content c.args.stored) c.in-Ok.maps.0 c.in-Err-upgrade_stored.refusal _ c.in-Err-upgrade_stored.ensures.refused; same = refl }

pub returns-in-Err-upgrade_stored-clause-unwritten : goal.returns-in-Err-upgrade_stored-clause-unwritten
returns-in-Err-upgrade_stored-clause-unwritten g c = still_unwritten c.in-Err-upgrade_stored.refusal _ _ refl

pub returns-clause-made : goal.returns-clause-made
returns-clause-made g c old_honest new_honest =
    let found = c.in-Ok-upgrade_stored.found in
    upgraded_store (g.O.Disk.honest c.args.stored) (g.O.Disk.content c.args.stored) c.args.room c.in-Ok.maps.0 c.in-Ok.maps.1 found.0 found.1 found.2 c.in-Ok-upgrade_stored.ensures.made c.make_upgraded-told.result.0 _ _ _ _
    c.in-Ok.ensures.maps (c.make_upgraded-told.ensures.made new_honest)

pub returns-clause-told : goal.returns-clause-told
returns-clause-told g c =
    let found = c.in-Ok-upgrade_stored.found in
    told_upgrade (g.O.Disk.honest c.args.stored) (g.O.Disk.content c.args.stored) c.args.room c.in-Ok.maps.0 c.in-Ok.maps.1 found.0 found.1 found.2 c.in-Ok-upgrade_stored.ensures.made c.make_upgraded-told.result.0 _ _ _ _
    c.in-Ok.ensures.maps c.make_upgraded-told.ensures.told

pub returns-clause-refused : goal.returns-clause-refused
returns-clause-refused g c =
    let found = c.in-Ok-upgrade_stored.found in
    making_refused (g.O.Disk.honest c.args.stored) (g.O.Disk.content c.args.stored) c.args.room c.in-Ok.maps.0 c.in-Ok.maps.1 found.0 found.1 found.2 c.in-Ok-upgrade_stored.ensures.made c.make_upgraded-told.result.0 _ _ (g.P.Text.source c.read_maps.new.before) (g.Q.Text.source c.read_maps.new.after)
    c.in-Ok.ensures.maps c.make_upgraded-told.ensures.refused

pub returns-in-Err-clause-not_empty : goal.returns-in-Err-clause-not_empty
returns-in-Err-clause-not_empty g c honest = maps_not_empty c.in-Err.failed c.in-Err.ensures.kinds _

pub returns-in-Err-upgrade_stored-clause-not_empty : goal.returns-in-Err-upgrade_stored-clause-not_empty
returns-in-Err-upgrade_stored-clause-not_empty g c honest = stored_not_empty (g.O.Disk.honest c.args.stored) (g.O.Disk.content c.args.stored) c.in-Ok.maps.0 c.in-Err-upgrade_stored.refusal _ c.in-Err-upgrade_stored.ensures.refused

pub returns-in-Err-clause-order : goal.returns-in-Err-clause-order
returns-in-Err-clause-order g c honest = memory_second c.in-Err.failed _ _ refl

pub returns-in-Err-upgrade_stored-clause-order : goal.returns-in-Err-upgrade_stored-clause-order
returns-in-Err-upgrade_stored-clause-order g c honest = memory_second (Code c.in-Err-upgrade_stored.refusal) _ _ refl

pub returns-clause-order : goal.returns-clause-order
returns-clause-order g c honest = memory_first c.make_upgraded-told.result.0 _ _ (c.make_upgraded-told.ensures.order honest)
