use Rattle.store.specs.Durable.{told_by}
use Rattle.store.proofs.ArcsKept.{net_of_header, pages_of_header}
use Rattle.store.proofs.InFlight.{left_always}
use Rattle.store.proofs.StateKept.{few_pages, durable_of, told_before_commit, stands_as_told}
use Rattle.store.proofs.stores.store.Store.version.Goals as goal

pub returns-clause-honest : goal.returns-clause-honest
returns-clause-honest g c = rw (← c.self.view_is) (λ came. (c.self.invariant.1 came).0)

pub returns-clause-room : goal.returns-clause-room
returns-clause-room g c =
    let n = c.self.inside.pages.numbers in
    rw (← c.self.view_is) (record { version_to = n.version_to; unchecked_to = n.unchecked_to; checkpoint_pages_to = few_pages c.self.inside.pages.found.header n.header.room_to })

pub returns-clause-only : goal.returns-clause-only
returns-clause-only g c = rw (← c.self.view_is) (λ honest works. (c.self.inside.pages.rests works honest).0)

pub returns-clause-stands : goal.returns-clause-stands
returns-clause-stands g c = rw (← c.self.view_is) (λ came works. durable_of c.self.inside.pages (g.D.Disk.content c.self.inside.pages.disk) ((c.self.invariant.1 came).1 works).1)

pub returns-clause-checkpoint_pages : goal.returns-clause-checkpoint_pages
returns-clause-checkpoint_pages g c =
    rw (← c.self.view_is) (λ came works. pages_of_header c.self.inside.pages.found.header c.self.inside.pages.found.network (net_of_header (g.D.Disk.content c.self.inside.pages.disk) (told_by c.self.inside.pages) ((c.self.invariant.1 came).1 works).1.0))

pub returns-clause-left : goal.returns-clause-left
returns-clause-left g c = rw (← c.self.view_is) (λ came. let held = c.self.invariant.1 came in left_always c.self.inside.pages c.self.inside.in_flight.groups held.1 held.2)

pub returns-clause-none_in_flight : goal.returns-clause-none_in_flight
returns-clause-none_in_flight g c = rw (← c.self.view_is) c.self.invariant.0

pub returns-clause-before_commit : goal.returns-clause-before_commit
returns-clause-before_commit g c = rw (← c.self.view_is) (λ none works.
    let p = c.self.inside.pages in
    stands_as_told p c.self.inside.given.value c.self.inside.in_flight.groups (g.D.Disk.content p.disk) (told_before_commit c.self.inside.given.value p c.self.invariant.2 none.0 none.1 works))
