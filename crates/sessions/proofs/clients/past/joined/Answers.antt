use Rattle.std.proofs.Common.{◌≡◌, Option, Some, sym, subst}
use Rattle.history.specs.Origins.{Beginning}
use Rattle.sessions.specs.Past.{HoldsMore}
use Rattle.sessions.proofs.Lasting.{holds_nothing, holds_of_none}
use Rattle.sessions.proofs.clients.past.joined.Goals as goal

pub returns-in-Some-None-clause-more : goal.returns-in-Some-None-clause-more
returns-in-Some-None-clause-more g c =
    let origin = g.N.Naming.origin in
    let of : c.again.result.origin ≡ origin = subst (λ (b : Beginning). b.origin ≡ origin) (sym c.again.ensures) (c.requires.had _ c.in-Some-None.is-0) in
    subst (λ (more : Option Beginning). HoldsMore origin more (Some c.again.result)) (sym c.in-Some-None.is-1) (holds_of_none origin c.again.result of)

pub returns-in-None-default-clause-had : goal.returns-in-None-default-clause-had
returns-in-None-default-clause-had g c =
    subst (λ (had : Option Beginning). HoldsMore g.N.Naming.origin had c.args.more) (sym c.in-None-default.is-0) (holds_nothing g.N.Naming.origin c.args.more c.requires.more)
