use Rattle.machine.proofs.InRun.{life_steps, stops_begin_lives}
use Rattle.machine.proofs.laws.laws_of_one_life.Goals as goal

pub returns : goal.returns
returns c = record { steps = life_steps; stops = stops_begin_lives }
