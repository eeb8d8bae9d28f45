use Rattle.std.proofs.Common.{[], sym, subst, append-nil, Option}
use Rattle.std.specs.Prelude.{unwrap_or}
use mathlib.Core.List.{IsPrefix}
use Rattle.history.specs.Origins.{Beginning}
use Rattle.published.specs.Showing.{Showing}
use Rattle.published.proofs.readers.ShownReader.look.Goals as goal
use Rattle.published.proofs.readers.ShownReader.look.Goals.{in-Some+else-not-begins, in_default}

pub returns-clause-begins : goal.returns-clause-begins
returns-clause-begins c =
    let found = c.view.inside.groups.groups in
    let begun : Option Beginning → Type 0 = λ learned. IsPrefix (unwrap_or learned c.self.inside.seen).groups found in
    rw (← c.self.view_is)
    (elim c.match-self.branch [
      | in-Some+else-not-begins w ↦ subst begun (sym w.in-Some.is) w.if-not-begins.ensures
      | in_default w ↦ subst begun (sym w.in_default.is) (subst (λ (x : Showing). IsPrefix c.self.inside.seen.groups x.shown.groups) (sym c.view.view_is) c.in_ok-view.ensures.shown.1.1)
    ])

-- a reader that is refused knows what it knew
pub returns-then-not-begins-clause-begins : goal.returns-then-not-begins-clause-begins
returns-then-not-begins-clause-begins c = rw (← c.self.view_is) ([], append-nil (unwrap_or c.self.inside.learned c.self.inside.seen).groups)
