use Rattle.std.proofs.Common.{take, arith}
use Rattle.storetexts.proofs.Advancing.{advances_both}
use Rattle.storetexts.proofs.Remaining.{on_ok_any, on_ok_both}
use Rattle.storetexts.proofs.applying.Applying.run.Goals as goal

pub returns-clause-some : goal.returns-clause-some
returns-clause-some g c net version have =
    let some = c.in_ok-take_all.ensures.some net version have in
    record { taken = some.taken; come = c.settle.ensures.come net version (take some.taken c.args.groups.now) some.come }

pub returns-clause-come : goal.returns-clause-come
returns-clause-come g c = on_ok_any c.settle.result _ (λ net version have. c.settle.ensures.come net version c.args.groups.now (c.in_ok-take_all.ensures.come net version have))

pub returns-clause-all : goal.returns-clause-all
returns-clause-all g c = on_ok_both c.settle.result _ _ _ c.settle.ensures.done c.settle.ensures.all (λ done all net version have. all (omega (arith, done)) net version c.args.groups.now (c.in_ok-take_all.ensures.come net version have))

pub returns-clause-advances : goal.returns-clause-advances
returns-clause-advances g c = advances_both g.D.Disk c.args.self.now c.take_all.new.self c.settle.new.self _ _ _ _ c.in_ok-take_all.ensures.advances c.settle.ensures.advances
