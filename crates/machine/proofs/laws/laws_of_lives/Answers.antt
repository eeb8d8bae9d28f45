use Rattle.machine.proofs.Accepted.{whole_histories_are_accepted}
use Rattle.machine.proofs.OverLives.{scripts_are_runs, acknowledged_are_in_history, stops_leave_acknowledged, answers_are_right, stops_leave_answers}
use Rattle.machine.proofs.Turns.{turns_are_told}
use Rattle.machine.proofs.laws.laws_of_lives.Goals as goal

pub returns : goal.returns
returns g c = record { runs = scripts_are_runs _; turns = turns_are_told _; history = whole_histories_are_accepted _; acknowledged = acknowledged_are_in_history _; left = stops_leave_acknowledged _; answers = answers_are_right _; answers_stay = stops_leave_answers _ }
