use Rattle.std.proofs.Common.{◌≡◌, ℕ, List, ◌∙◌, sym, ap, subst}
use Rattle.storefile.specs.Standing.{Standing}
use Rattle.store.specs.Committing.{HasTidyStanding}
use Rattle.store.specs.Durable.{told_by}
use Rattle.store.specs.State.{told_of}
use Rattle.store.proofs.InFlight.{stands_still}
use Rattle.store.proofs.StateKept.{told_armed}
use Rattle.store.proofs.stores.store.Store.arm.Goals as goal

pub invariant_of-self : goal.invariant_of-self
invariant_of-self g c =
    let p = c.self.inside.pages in
    let n = c.arm.new.self in
    let e = c.arm.ensures in
    let told : told_by n ≡ told_by p = e.told in
    let header : n.found.header ≡ p.found.header = ap (λ (x : Standing). x.header) told in
    let network : n.found.network ≡ p.found.network = ap (λ (x : Standing). x.network) told in
    let version : n.found.version ≡ p.found.version = ap (λ (x : Standing). x.version) told in (
      λ works. c.self.invariant.0 (sym e.broken ∙ works),
      λ came.
          let held = c.self.invariant.1 came in (
            e.arms.honest.1 held.0,
            λ works.
                let rests = held.1 (sym e.broken ∙ works) in (
                  λ d was. rests.0 d ((e.arms.left d).0 was) ∙ sym e.arms.content,
                  subst (λ (x : Standing). HasTidyStanding (g.D.Disk.content n.disk) x) (sym told) (subst (λ (d : List ℕ). HasTidyStanding d (told_by p)) (sym e.arms.content) rests.1),
                ),
            λ broke d was. stands_still p n c.self.inside.in_flight.groups header network version d (held.2 (sym e.broken ∙ broke) d ((e.arms.left d).0 was)),
          ),
      told_armed c.self.inside.given.value p n told e.broken e.arms.content e.arms.honest c.self.invariant.2,
    )

pub returns-clause-told : goal.returns-clause-told
returns-clause-told g c = rw (← c.self.view_is) (ap told_of c.arm.ensures.told)
