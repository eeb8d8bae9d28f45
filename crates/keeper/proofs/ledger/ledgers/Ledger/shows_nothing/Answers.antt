use Rattle.std.proofs.Common.{refl}
use Rattle.keeper.proofs.ledger.ledgers.Ledger.shows_nothing.Goals as goal

pub returns : goal.returns
returns g c = rw (← c.self.view_is) refl
