use Rattle.store.proofs.StateKept.{told_before_commit, stands_as_told}
use Rattle.store.proofs.stores.store.Store.unchecked.Goals as goal

pub returns-clause-stands : goal.returns-clause-stands
returns-clause-stands g c = rw (← c.self.view_is) (λ came works.
    let p = c.self.inside.pages in
    stands_as_told p c.self.inside.given.value c.self.inside.in_flight.groups (g.D.Disk.content p.disk) ((c.self.invariant.1 came).1 works).1.0)

pub returns-clause-before_commit : goal.returns-clause-before_commit
returns-clause-before_commit g c = rw (← c.self.view_is) (λ none works.
    let p = c.self.inside.pages in
    stands_as_told p c.self.inside.given.value c.self.inside.in_flight.groups (g.D.Disk.content p.disk) (told_before_commit c.self.inside.given.value p c.self.invariant.2 none.0 none.1 works))
