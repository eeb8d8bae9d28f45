use Rattle.storefile.proofs.Rests.{stored_as}
use Rattle.store.specs.Durable.{told_by}
use Rattle.store.proofs.StateKept.{told_before_commit}
use Rattle.store.proofs.stores.store.Store.standing.Goals as goal

pub returns-clause-stands : goal.returns-clause-stands
returns-clause-stands g c = rw (← c.self.view_is) (λ came works.
    let p = c.self.inside.pages in
    record { header = p.found.header; next = p.found.next_sequence; stored = stored_as (g.D.Disk.content p.disk) (told_by p) ((c.self.invariant.1 came).1 works).1.0 })

pub returns-clause-before_commit : goal.returns-clause-before_commit
returns-clause-before_commit g c = rw (← c.self.view_is) (λ none works.
    let p = c.self.inside.pages in
    record { header = p.found.header; next = p.found.next_sequence; stored = stored_as (g.D.Disk.content p.disk) (told_by p) (told_before_commit c.self.inside.given.value p c.self.invariant.2 none.0 none.1 works) })
