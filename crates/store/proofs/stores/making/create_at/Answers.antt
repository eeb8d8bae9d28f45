use Rattle.std.proofs.Common.{◌≡◌, true, false, refl, sym, ◌∙◌, subst}
use Rattle.store.specs.Durable.{told_by}
use Rattle.store.specs.State.{CameTidy}
use Rattle.store.proofs.StateKept.{tidily, told_at_first}
use Rattle.store.proofs.stores.making.create_at.Goals as goal

pub invariant_of-result : goal.invariant_of-result
invariant_of-result g c = (
  λ works. c.none-in_flight.ensures,
  λ was.
      let came = subst (λ (d : g.row.D.Denot). CameTidy g.D.Disk.honest g.D.Disk.content d) c.of-given.ensures was in
      let honest = c.in_ok-pages.ensures.honest.0.0 came.0 in (
        came.0,
        λ works. (c.in_ok-pages.ensures.only honest, tidily (g.D.Disk.content c.in_ok-pages.pages.disk) (told_by c.in_ok-pages.pages) came.1 (c.in_ok-pages.ensures.standing honest)),
        λ broke. absurd (let never : true ≡ false = sym broke ∙ c.in_ok-pages.ensures.works in cc),
      ),
  told_at_first c.of-given.result.value c.in_ok-pages.pages c.of-given.ensures (λ honest. c.in_ok-pages.ensures.standing (c.in_ok-pages.ensures.honest.0.0 honest)),
)

pub returns-clause-tidy : goal.returns-clause-tidy
returns-clause-tidy g c honest = (told_by c.in_ok-pages.pages, (c.in_ok-pages.ensures.standing honest, c.in_ok-pages.ensures.tidy honest))

pub returns-clause-told : goal.returns-clause-told
returns-clause-told g c honest = record { standing = told_by c.in_ok-pages.pages; is = c.in_ok-pages.ensures.standing honest; told_is = refl }
