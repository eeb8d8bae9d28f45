use Rattle.std.proofs.Common.{◌<◌, length, refl, subst}
use mathlib.Core.List.{IsPrefix}
use Rattle.history.specs.Origins.{Beginning}
use Rattle.sessions.proofs.Answered.{kept_in}
use Rattle.sessions.proofs.session.sessions.Session.is_kept.Goals as goal

pub returns-in-Some-clause-kept : goal.returns-in-Some-clause-kept
returns-in-Some-clause-kept g c shown last is =
    let seen : IsPrefix c.in-Some.place.groups c.args.closed.now.shown.groups =
    subst (λ (b : Beginning). IsPrefix b.groups c.args.closed.now.shown.groups) c.known.ensures.known (rw shown at c.has_shown.ensures) in
    kept_in g.N.Naming.origin c.args.closed.now.whole c.args.closed.now.shown c.args.self.now.place c.args.self.now.receipts last c.requires c.compare.ensures (rw c.in-Some.is seen) is

pub returns-in-Some-clause-fewer : goal.returns-in-Some-clause-fewer
returns-in-Some-clause-fewer g c shown =
    let fewer : length c.args.closed.now.shown.groups < length c.in-Some.place.groups =
    subst (λ (b : Beginning). length c.args.closed.now.shown.groups < length b.groups) c.known.ensures.known (rw shown at c.has_shown.ensures) in
    rw c.in-Some.is fewer

pub returns-in-None-clause-kept : goal.returns-in-None-clause-kept
returns-in-None-clause-kept g c truth last is =
    kept_in g.N.Naming.origin c.args.closed.now.whole c.args.closed.now.shown c.args.self.now.place c.args.self.now.receipts last c.requires c.compare.ensures
    (rw c.in-None.is (c.args.closed.now.shown.groups, refl)) is

pub returns-in-None-clause-fewer : goal.returns-in-None-clause-fewer
returns-in-None-clause-fewer g c shown = absurd (let absurdity : ⊥ = cc in absurdity)
