use Rattle.disk.proofs.Steps.{same_call}
use Rattle.disk.proofs.gated.read_at.Goals as goal

pub returns-clause-reads : goal.returns-clause-reads
returns-clause-reads g c = record {
  same = λ h.
      same_call g.D.Disk.moment g.D.Disk.left_since g.D.Disk.content g.D.Disk.left c.args.disk.now c.read.new.self (c.read.ensures.content h) (c.read.ensures.stop h) (c.read.ensures.time h)
      (λ t x le left. g.met.D.Disk.counts_now c.args.disk.now t x h le left);
  counted = c.read.ensures.counted;
  honest = c.read.ensures.honest;
}
