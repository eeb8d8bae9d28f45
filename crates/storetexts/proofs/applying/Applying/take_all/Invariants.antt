use Rattle.std.proofs.Common.{◌≡◌, ◌<◌, ℕ, [], length, take, Ok}
use Rattle.roadnet.specs.Net.{Net}
use Rattle.printing.specs.Counting.{writer_of}
use Rattle.machine.specs.Machine.{pending}
use Rattle.storetexts.specs.Applying.{GroupsTaken, LinesTold, Advances}
use Rattle.storetexts.proofs.applying.Applying.take_all.Given as goal

abbrev pub invariant-loop-index : goal.invariant-loop-index
invariant-loop-index g l = record {
  advances : Advances g.D.Disk (Ok tt) l.initial.self l.self l.initial.out l.out;
  few : pending l.self.ledger.machine < 253;
  noted : length l.self.outcomes.items ≡ l.index;
  come : (net : Net) (version : ℕ) → GroupsTaken net version [] [] 0 l.initial.self.ledger.machine → GroupsTaken net version (take l.index l.groups) l.self.outcomes.items l.self.told l.self.ledger.machine;
  lines : LinesTold (g.W.Write.contents (writer_of l.initial.out)) (g.W.Write.contents (writer_of l.out)) l.self.outcomes.items l.self.told;
}
