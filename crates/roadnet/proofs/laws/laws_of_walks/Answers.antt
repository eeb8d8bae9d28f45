use Rattle.roadnet.proofs.Apart.{least_is_bounded}
use Rattle.roadnet.proofs.Joined.{walks_join, least_is_one, least_or_no_walk, difference_is_below, no_walk_onward}
use Rattle.roadnet.proofs.laws.laws_of_walks.Goals as goal

pub returns : goal.returns
returns c = record { joined = walks_join; one_least = least_is_one; one_answer = least_or_no_walk; bounded = least_is_bounded; difference = difference_is_below; onward = no_walk_onward }
