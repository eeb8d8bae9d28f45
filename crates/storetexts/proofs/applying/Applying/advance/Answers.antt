use Rattle.std.proofs.Common.{arith}
use Rattle.storetexts.proofs.Advancing.{advances_none, advances_both}
use Rattle.storetexts.proofs.applying.Applying.advance.Goals as goal

pub returns-clause-advances : goal.returns-clause-advances
returns-clause-advances g c =
    advances_both g.D.Disk c.args.self.now c.take.new.self c.settle.new.self _ _ _ _
    (advances_none g.D.Disk c.args.self.now c.take.new.self c.args.out.now c.take.ensures.goes c.take.ensures.calm c.take.ensures.waiting (omega (arith, c.take.ensures.told, c.take.ensures.noted, c.requires.told_to)) c.take.ensures.disk)
    c.settle.ensures.advances
