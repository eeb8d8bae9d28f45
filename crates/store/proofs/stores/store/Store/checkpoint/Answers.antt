use Rattle.store.proofs.InFlight.{worked_before, left_after_checkpoint}
use Rattle.store.proofs.StateKept.{works_at_checkpoint, at_ok, rests_after, told_after_checkpoint, told_still}
use Rattle.store.proofs.stores.store.Store.checkpoint.Goals as goal

pub invariant_of-self : goal.invariant_of-self
invariant_of-self g c =
    let p = c.self.inside.pages in
    let n = c.checkpoint.new.self in
    let e = c.checkpoint.ensures in
    let worked = at_ok _ c.checkpoint.result e.refuses.refused (works_at_checkpoint p.broken) in (
      λ works. c.self.invariant.0 (worked_before c.checkpoint.result p n e.refuses.same e.tells.breaks worked works),
      λ came.
          let held = c.self.invariant.1 came in (
            e.tells.honest.1 held.0,
            rests_after c.checkpoint.result p n e.refuses.same e.tells.breaks worked (e.only held.0) (e.stands held.0) held.1,
            left_after_checkpoint c.checkpoint.result p n c.self.inside.in_flight.groups e.refuses.refused e.refuses.same e.works e.keeps.header e.keeps.network e.keeps.version (λ works. e.left works held.0 (held.1 works).1) held.2,
          ),
      told_after_checkpoint c.checkpoint.result c.self.inside.given.value p n e.tells.honest e.keeps.version e.refuses.same e.tells.breaks worked e.as_told c.self.invariant.2,
    )

pub returns-clause-any_moment : goal.returns-clause-any_moment
returns-clause-any_moment g c = rw (← c.self.view_is) (λ came works.
    let held = c.self.invariant.1 came in c.checkpoint.ensures.any_moment works held.0 (held.1 works).1)

pub returns-clause-left : goal.returns-clause-left
returns-clause-left g c = rw (← c.self.view_is) (λ came works.
    let held = c.self.invariant.1 came in c.checkpoint.ensures.left works held.0 (held.1 works).1)

pub returns-clause-before_commit : goal.returns-clause-before_commit
returns-clause-before_commit g c =
    let e = c.checkpoint.ensures in
    rw (← c.self.view_is) (λ none. told_still c.checkpoint.result c.self.inside.given.value c.self.inside.pages c.checkpoint.new.self c.self.inside.in_flight.groups e.keeps.network e.keeps.version e.works (invariant_of-self g c).2 none.0 none.1)
