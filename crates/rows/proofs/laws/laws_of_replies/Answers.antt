use Rattle.rows.proofs.ReplyLaws.{right_is_one, bound_under_distance, shown_has_no_walk}
use Rattle.rows.proofs.laws.laws_of_replies.Goals as goal

pub returns : goal.returns
returns c = record { one = right_is_one; bound = bound_under_distance; shown = shown_has_no_walk }
