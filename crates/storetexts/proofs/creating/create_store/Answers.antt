use Rattle.std.proofs.Common.{rules, Err}
use Rattle.storetexts.proofs.Made.{done_any, made_so}
use Rattle.storetexts.proofs.creating.create_store.Goals as goal

pub returns-in-Err-put_reply-clause-made : goal.returns-in-Err-put_reply-clause-made
returns-in-Err-put_reply-clause-made g c honest =
    let made = made_so c.args.network.now c.args.journal_pages (g.D.Disk.content c.in-Ok.store.disk) (g.D.Disk.left c.in-Ok.store.disk) (c.in-Ok.ensures.stands honest) (c.in-Ok.ensures.made honest) (c.in-Ok.ensures.only honest) in
    let h = done_any (Err c.in-Err-put_reply.failed) _ made in
    let there = c.close-disk.ensures.disk in
    search (rules, h, there)

pub returns-clause-made : goal.returns-clause-made
returns-clause-made g c honest =
    let made = made_so c.args.network.now c.args.journal_pages (g.D.Disk.content c.in-Ok.store.disk) (g.D.Disk.left c.in-Ok.store.disk) (c.in-Ok.ensures.stands honest) (c.in-Ok.ensures.made honest) (c.in-Ok.ensures.only honest) in
    let h = done_any c.flush.result _ made in
    let there = c.close-disk.ensures.disk in
    search (rules, h, there)
