use Rattle.store.proofs.paged.state.Paged.arm.Goals as goal

pub returns-clause-arms : goal.returns-clause-arms
returns-clause-arms g c = record {
  armed = c.arm.ensures.armed;
  content = c.arm.ensures.content;
  synced = c.arm.ensures.synced;
  unsynced = c.arm.ensures.unsynced;
  left = c.arm.ensures.left;
  moment = c.arm.ensures.moment;
  left_since = c.arm.ensures.left_since;
  failures = c.arm.ensures.failures;
  honest = c.arm.ensures.honest;
}
