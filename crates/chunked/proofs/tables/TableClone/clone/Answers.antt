use Rattle.chunked.proofs.OfTables.{same_items}
use Rattle.chunked.proofs.tables.TableClone.clone.Goals as goal

pub returns : goal.returns
returns g c = record { cases = same_items c.args.self.now.items c.in_ok-items.items c.in_ok-items.ensures.cases.whole }
