use Rattle.std.proofs.Common.{sym, subst}
use Rattle.store.specs.State.{StoreState, CameTidy}
use Rattle.store.proofs.InFlight.{left_always}
use Rattle.store.proofs.StateKept.{durable_of}
use Rattle.store.proofs.stores.store.Store.close.Goals as goal

pub returns-clause-honest : goal.returns-clause-honest
returns-clause-honest g c came =
    (c.self.invariant.1 (subst (λ (s : StoreState g.row.D.Denot). CameTidy g.D.Disk.honest g.D.Disk.content s.given) (sym c.self.view_is) came)).0

pub returns-clause-stands : goal.returns-clause-stands
returns-clause-stands g c =
    let p = c.self.inside.pages in
    rw (← c.self.view_is) (λ came works. durable_of p (g.D.Disk.content p.disk) ((c.self.invariant.1 came).1 works).1)

pub returns-clause-left : goal.returns-clause-left
returns-clause-left g c =
    let p = c.self.inside.pages in
    rw (← c.self.view_is) (λ came d was. let held = c.self.invariant.1 came in left_always p c.self.inside.in_flight.groups held.1 held.2 d was)
