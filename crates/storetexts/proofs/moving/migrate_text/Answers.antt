use Rattle.std.proofs.Common.{None}
use Rattle.disk.specs.Moments.{StaysSame}
use Rattle.pages.specs.declared.content.Format.TheVariants.{One}
use Rattle.storetexts.proofs.Moved.{all_moved, all_told, all_for_new, all_for_old, all_of_move, all_empty, all_failures, all_same, all_unwritten, all_counted, all_honest}
use Rattle.storetexts.proofs.moving.migrate_text.Goals as goal

pub returns-clause-made : goal.returns-clause-made
returns-clause-made g c old_honest new_honest =
    all_moved c.migrate-made.result c.tell_made.result.0 c.tell_made.result.1 g.D.Disk.content g.D.Disk.left One (g.O.Disk.content c.args.old.now) c.args.room None
    (c.migrate-made.ensures.copied old_honest) c.migrate-made.ensures.checkpoint_pages (c.migrate-made.ensures.stands new_honest) (c.migrate-made.ensures.only new_honest) (c.migrate-made.ensures.made new_honest) c.migrate-made.ensures.causes c.tell_made.ensures.disk c.tell_made.ensures.refused

pub returns-clause-told : goal.returns-clause-told
returns-clause-told g c =
    all_told c.migrate-made.result c.tell_made.result.0 (g.O.Disk.honest c.args.old.now) One (g.O.Disk.content c.args.old.now) c.args.room None _ _ c.migrate-made.ensures.copied c.tell_made.ensures.told c.tell_made.ensures.refused

pub returns-clause-refused_for_new : goal.returns-clause-refused_for_new
returns-clause-refused_for_new g c new_honest =
    all_for_new c.migrate-made.result c.tell_made.result.0 (g.D.Disk.content c.args.new) (c.migrate-made.ensures.empty new_honest) (c.migrate-made.ensures.refused_for_new new_honest) c.migrate-made.ensures.causes
    c.tell_made.ensures.failed c.tell_made.ensures.refused

pub returns-clause-refused_for_old : goal.returns-clause-refused_for_old
returns-clause-refused_for_old g c old_honest =
    all_for_old c.migrate-made.result c.tell_made.result.0 One (g.O.Disk.content c.args.old.now) c.args.room None
    (c.migrate-made.ensures.copied old_honest) (c.migrate-made.ensures.refused_for_old old_honest) c.migrate-made.ensures.causes c.tell_made.ensures.failed c.tell_made.ensures.refused

pub returns-clause-codes : goal.returns-clause-codes
returns-clause-codes g c = all_of_move c.migrate-made.result c.tell_made.result.0 c.migrate-made.ensures.causes c.tell_made.ensures.failed c.tell_made.ensures.refused

pub returns-clause-empty : goal.returns-clause-empty
returns-clause-empty g c new_honest = all_empty c.migrate-made.result c.tell_made.result.0 _ (c.migrate-made.ensures.empty new_honest) c.migrate-made.ensures.causes c.tell_made.ensures.refused

pub returns-clause-counted : goal.returns-clause-counted
returns-clause-counted g c =
    all_failures c.migrate-made.result c.tell_made.result.0 c.tell_made.result.1 g.O.Disk.failures g.D.Disk.failures c.args.old.now c.migrate-made.new.old c.args.new c.migrate-made.ensures.counted
    c.tell_made.ensures.failed c.tell_made.ensures.disk c.tell_made.ensures.refused

pub returns-clause-same : goal.returns-clause-same
returns-clause-same g c new_honest =
    all_same c.migrate-made.result c.tell_made.result.0 c.tell_made.result.1 (StaysSame g.D.Disk.content g.D.Disk.left g.D.Disk.moment g.D.Disk.left_since c.args.new) (c.migrate-made.ensures.same new_honest)
    c.tell_made.ensures.failed c.tell_made.ensures.disk c.tell_made.ensures.refused

pub returns-clause-unwritten : goal.returns-clause-unwritten
returns-clause-unwritten g c = all_unwritten c.migrate-made.result c.tell_made.result.0 c.args.out.now c.tell_made.new.out c.tell_made.ensures.failed c.tell_made.ensures.untold c.tell_made.ensures.refused

pub returns-clause-writes : goal.returns-clause-writes
returns-clause-writes g c = record { writes = all_counted c.migrate-made.result c.tell_made.result.0 c.args.out.now c.tell_made.new.out c.tell_made.ensures.writes c.tell_made.ensures.untold c.migrate-made.ensures.causes c.tell_made.ensures.refused; same = c.tell_made.ensures.same_writer }

pub returns-clause-honest : goal.returns-clause-honest
returns-clause-honest g c = (c.migrate-made.ensures.honest, all_honest c.migrate-made.result c.tell_made.result.1 g.D.Disk.honest c.args.new c.migrate-made.ensures.honest_new c.tell_made.ensures.disk)
