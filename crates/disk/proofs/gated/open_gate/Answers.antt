use Rattle.disk.specs.Contents.{Torn}
use Rattle.disk.specs.Gated.{IsShutOrOpened}
use Rattle.disk.proofs.Steps.{weaker}
use Rattle.disk.proofs.Gates.{open_torn}
use Rattle.disk.proofs.gated.open_gate.Goals as goal

pub returns-clause-writes : goal.returns-clause-writes
returns-clause-writes g c = record {
  any_moment = λ h.
      let old = g.D.Disk.content c.args.disk.now in
      weaker g.D.Disk.moment g.D.Disk.left_since c.args.disk.now c.write_synced.new.disk (Torn c.args.gate_at 1 old) (IsShutOrOpened old c.args.gate_at)
      (c.write_synced.ensures.writes.any_moment h) (λ x torn. open_torn c.args.gate_at old (c.requires.within h) x torn);
  at_rest = c.write_synced.ensures.writes.at_rest;
  counted = c.write_synced.ensures.writes.counted;
  honest = c.write_synced.ensures.writes.honest;
}
