use Rattle.std.proofs.Common.{Ok}
use Rattle.machine.specs.Machine.{pending}
use Rattle.storetexts.specs.Applying.{Saves}
use Rattle.storetexts.proofs.applying.Applying.flush_below.Given as goal

abbrev pub invariant-pages : goal.invariant-pages
invariant-pages g l = record { saves : Saves {T = Unit {0}} g.D.Disk (Ok tt) l.initial.self l.self }

abbrev pub decreases-pages : goal.decreases-pages
decreases-pages g l = pending l.self.ledger.machine
