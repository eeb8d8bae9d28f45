use Rattle.std.proofs.Common.{Ok, Err, Some, None, refl, ap, ◌∙◌}
use Rattle.roadnet.specs.declared.refusals.Refusal.TheVariants.{OutOfMemory}
use Rattle.lives.proofs.LifeKept.{given_back}
use Rattle.lives.proofs.lives.Life.task.Goals as goal

pub returns-in-Ok-None : goal.returns-in-Ok-None
returns-in-Ok-None g c = record {
  does = (Ok None, rw c.in-Ok-None.field-0-is at c.in-Ok-None.ensures.step, refl);
  delta = refl;
  given = c.take_task.ensures.given;
  counted = ap g.D.Disk.failures c.take_task.ensures.disk;
}

pub returns-in-Err : goal.returns-in-Err
returns-in-Err g c = record {
  does = (Err OutOfMemory, c.in-Err.ensures.step, refl);
  delta = refl;
  given = c.take_task.ensures.given;
  counted = ap g.D.Disk.failures c.take_task.ensures.disk;
}

pub returns-in-Ok : goal.returns-in-Ok
returns-in-Ok g c =
    let task = c.in-Ok-Some.task in
    record {
      does = (Ok (Some (task.version, task.network.value)), rw c.in-Ok-Some.field-0-is at c.in-Ok-Some.ensures.step, refl);
      delta = refl;
      given = c.take_task.ensures.given;
      counted = ap g.D.Disk.failures c.take_task.ensures.disk;
    }

pub returns : goal.returns
returns g c =
    let task = c.in-Ok-Some.task in
    let step = rw c.in-Ok-Some.field-0-is at c.in-Ok-Some.ensures.step in
    record {
      does = (Err OutOfMemory, (step.0, refl, given_back _ _ _ (task.version, task.network.value) step c.give_up.ensures.step), refl);
      delta = refl;
      given = c.give_up.ensures.given ∙ c.take_task.ensures.given;
      counted = ap g.D.Disk.failures (c.give_up.ensures.disk ∙ c.take_task.ensures.disk);
    }
