use Rattle.keeper.proofs.Caught.{between_is}
use Rattle.keeper.proofs.ledger.ledgers.Ledger.groups_between.Goals as goal

pub returns-clause-groups : goal.returns-clause-groups
returns-clause-groups g c =
    let base = rw (← c.self.view_is) at c.requires.base in
    rw (← c.self.view_is) (between_is c.deref.result.now c.self.inside.history.items c.args.from c.args.to c.self.inside.opened c.deref.ensures.value c.requires.order base)
