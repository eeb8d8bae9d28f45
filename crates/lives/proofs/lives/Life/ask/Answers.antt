use Rattle.std.proofs.Common.{Ok, Err, refl, ap}
use Rattle.roadnet.specs.declared.refusals.Refusal.TheVariants.{OutOfMemory}
use Rattle.lives.proofs.lives.Life.ask.Goals as goal

pub returns-in-Ok : goal.returns-in-Ok
returns-in-Ok g c = record { does = (Ok c.in-Ok.answer, c.in-Ok.ensures.step, refl); delta = refl; given = ap (λ k. k.given) c.ask.ensures.same; counted = ap (λ k. g.D.Disk.failures k.disk) c.ask.ensures.same }

pub returns-in-Err : goal.returns-in-Err
returns-in-Err g c = record { does = (Err OutOfMemory, c.in-Err.ensures.step, refl); delta = refl; given = ap (λ k. k.given) c.ask.ensures.same; counted = ap (λ k. g.D.Disk.failures k.disk) c.ask.ensures.same }
