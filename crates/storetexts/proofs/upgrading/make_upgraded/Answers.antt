use Rattle.std.proofs.Common.{rules, Err}
use Rattle.storetexts.proofs.Made.{done_any, made_so}
use Rattle.storetexts.proofs.Upgraded.{write_no_device, write_no_memory, write_not_empty}
use Rattle.storetexts.proofs.upgrading.make_upgraded.Goals as goal

pub returns-in-Err-put_upgrade-clause-made : goal.returns-in-Err-put_upgrade-clause-made
returns-in-Err-put_upgrade-clause-made g c honest =
    let made = made_so c.args.network.now c.args.journal_pages (g.D.Disk.content c.in-Ok.store.disk) (g.D.Disk.left c.in-Ok.store.disk) (c.in-Ok.ensures.stands honest) (c.in-Ok.ensures.made honest) (c.in-Ok.ensures.only honest) in
    let h = done_any (Err c.in-Err-put_upgrade.failed) _ made in
    let there = c.close-disk.ensures.disk in
    search (rules, h, there)

pub returns-clause-made : goal.returns-clause-made
returns-clause-made g c honest =
    let made = made_so c.args.network.now c.args.journal_pages (g.D.Disk.content c.in-Ok.store.disk) (g.D.Disk.left c.in-Ok.store.disk) (c.in-Ok.ensures.stands honest) (c.in-Ok.ensures.made honest) (c.in-Ok.ensures.only honest) in
    let h = done_any c.flush.result _ made in
    let there = c.close-disk.ensures.disk in
    search (rules, h, there)

pub returns-clause-empty : goal.returns-clause-empty
returns-clause-empty g c honest = done_any c.flush.result _ (c.in-Ok.ensures.empty honest)

pub returns-clause-not_empty : goal.returns-clause-not_empty
returns-clause-not_empty g c honest = write_not_empty _ c.flush.result c.flush.ensures.fails.refused

pub returns-clause-order : goal.returns-clause-order
returns-clause-order g c honest = write_no_memory _ c.flush.result c.flush.ensures.fails.refused

pub returns-clause-untouched : goal.returns-clause-untouched
returns-clause-untouched g c honest = write_no_device _ c.flush.result c.flush.ensures.fails.refused
