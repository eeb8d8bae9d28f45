use Rattle.std.proofs.Common.{refl}
use mathlib.Core.List.{IsPrefix}
use Rattle.sessions.proofs.Lasting.{all_kept}
use Rattle.sessions.proofs.clients.past.Past.is_kept.Goals as goal

pub returns-in-Some : goal.returns-in-Some
returns-in-Some g c shown sessions left =
    let seen : IsPrefix c.in-Some.seen.groups c.args.closed.now.shown.groups = rw shown at c.has_shown.ensures in
    all_kept g.N.Naming.origin c.args.closed.now.whole c.args.closed.now.shown c.args.self.now.receipts c.args.self.now.seen sessions c.requires c.compare.ensures (rw c.in-Some.is seen) left

pub returns-in-None : goal.returns-in-None
returns-in-None g c truth sessions left =
    all_kept g.N.Naming.origin c.args.closed.now.whole c.args.closed.now.shown c.args.self.now.receipts c.args.self.now.seen sessions c.requires c.compare.ensures
    (rw c.in-None.is (c.args.closed.now.shown.groups, refl)) left
