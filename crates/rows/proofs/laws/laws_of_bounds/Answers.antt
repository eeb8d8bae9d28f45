use Rattle.rows.proofs.BoundLaws.{bound_is_below, shown_is_true, bound_is_one, bound_or_shown, bound_from_landmark, shown_from_landmark}
use Rattle.rows.proofs.laws.laws_of_bounds.Goals as goal

pub returns : goal.returns
returns c = record { below = bound_is_below; shown = shown_is_true; one = bound_is_one; one_answer = bound_or_shown; from_landmark = bound_from_landmark; shown_from_landmark = shown_from_landmark }
