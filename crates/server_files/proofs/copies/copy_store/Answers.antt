use Rattle.server_files.specs.Copied.{IsCopyOf}
use Rattle.server_files.proofs.copies.copy_store.Goals as goal

pub returns-in-Ok-clause-made : goal.returns-in-Ok-clause-made
returns-in-Ok-clause-made g c honest =
    let disk = c.in-Ok.store.disk in
    let made : IsCopyOf c.args.network.now c.args.version c.args.journal_pages (g.D.Disk.content disk) (g.D.Disk.left disk) = record { stands = c.in-Ok.ensures.stands honest; only = c.in-Ok.ensures.only honest } in
    rw c.close.ensures.disk made
