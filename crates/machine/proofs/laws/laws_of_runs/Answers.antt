use Rattle.machine.proofs.Acknowledged.{acknowledged_stay, answers_stay_right}
use Rattle.machine.proofs.laws.laws_of_runs.Goals as goal

pub returns : goal.returns
returns c = record { acknowledged = acknowledged_stay; answers = answers_stay_right }
