-- The definitions at a small network, whose values were worked out by hand.
use Rattle.std.proofs.Common.{◌≡◌, ℕ, true, [], ◌∷◌, ◌++◌, Some, None, refl, lit≤}
use Rattle.roadnet.specs.declared.arcs.RoadArc.{RoadArc}
use Rattle.roadnet.specs.declared.commands.Command.TheVariants.{Set, Close, Reopen, Mark, Unmark, Lay}
use Rattle.roadnet.specs.declared.refusals.Refusal.TheVariants.{NumberRange, NoSuchArc, LengthRange, AlreadyClosed, AlreadyOpen, NoSuchNode, AlreadyLandmark, NotALandmark, NoRoom}
use Rattle.roadnet.specs.Net.{Net}
use Rattle.roadnet.specs.Step.{refusal_of, step_group, after, first_refusal}
use Rattle.roadnet.specs.Batches.{changed_by}
use Rattle.roadnet.specs.Made.{flaw_of}
use Rattle.roadnet.specs.Walks.{Walk, length_of}

abbrev open_arc : ℕ → ℕ → ℕ → RoadArc
open_arc tail head length = record { tail = tail; head = head; length = length; opened = true }

abbrev six : Net
six = record {
  nodes = 6;
  arcs =
      open_arc 1 2 17 ∷ open_arc 1 3 10 ∷ open_arc 2 4 2 ∷ open_arc 3 5 0 ∷ open_arc 4 3 0 ∷ open_arc 4 6 3 ∷ open_arc 5 2 0 ∷ open_arc 5 6 20 ∷ [];
  landmarks = [];
  room = 8;
}

no_such_arc : refusal_of six (Set 9 1) ≡ Some NoSuchArc
no_such_arc = refl

too_long : refusal_of six (Set 1 2147483648) ≡ Some LengthRange
too_long = refl

lowest_of_two : refusal_of six (Set 9 2147483648) ≡ Some NoSuchArc
lowest_of_two = refl

no_such_node : refusal_of six (Mark 7) ≡ Some NoSuchNode
no_such_node = refl

no_landmark : refusal_of six (Unmark 3) ≡ Some NotALandmark
no_landmark = refl

open_already : refusal_of six (Reopen 7) ≡ Some AlreadyOpen
open_already = refl

no_arc_zero : refusal_of six (Close 0) ≡ Some NoSuchArc
no_arc_zero = refl

closed_twice : step_group six (Close 7 ∷ Close 7 ∷ []) ≡ None
closed_twice = refl

-- a closed arc keeps its length, and may get another
reopened : step_group six (Close 7 ∷ Reopen 7 ∷ []) ≡ Some six
reopened = refl

set_while_closed : step_group six (Close 7 ∷ Set 7 4 ∷ Set 7 0 ∷ Reopen 7 ∷ []) ≡ Some six
set_while_closed = refl

landmarks_ascend : step_group six (Mark 4 ∷ Mark 2 ∷ Mark 6 ∷ Unmark 4 ∷ Mark 3 ∷ []) ≡ Some (record six { landmarks = 2 ∷ 3 ∷ 6 ∷ [] })
landmarks_ascend = refl

marked_twice : refusal_of (record six { landmarks = 3 ∷ [] }) (Mark 3) ≡ Some AlreadyLandmark
marked_twice = refl

-- a batch is refused for its first command that is not admitted in its turn
second_refused : first_refusal six (Close 7 ∷ Close 7 ∷ Set 9 1 ∷ []) ≡ Some AlreadyClosed
second_refused = refl

none_refused : first_refusal six (Close 7 ∷ Reopen 7 ∷ Close 7 ∷ []) ≡ None
none_refused = refl

unmarked_and_marked : (changed_by six (Mark 4 ∷ Mark 2 ∷ Unmark 4 ∷ [])).landmarks ≡ 2 ∷ []
unmarked_and_marked = refl

-- an arc is laid where there is room, behind the others
abbrev roomy : Net
roomy = record six { room = 10 }

no_room : refusal_of six (Lay 6 1 7) ≡ Some NoRoom
no_room = refl

long_before_node : refusal_of six (Lay 7 1 2147483648) ≡ Some LengthRange
long_before_node = refl

node_before_room : refusal_of six (Lay 7 1 1) ≡ Some NoSuchNode
node_before_room = refl

laid_and_closed : step_group roomy (Lay 6 1 7 ∷ Close 9 ∷ Lay 1 6 14 ∷ Reopen 9 ∷ []) ≡ Some (record roomy { arcs = roomy.arcs ++ open_arc 6 1 7 ∷ open_arc 1 6 14 ∷ [] })
laid_and_closed = refl

third_refused : first_refusal roomy (Lay 6 1 7 ∷ Lay 1 6 14 ∷ Lay 2 2 0 ∷ []) ≡ Some NoRoom
third_refused = refl

-- groups, each all or none
two_groups : after six ((Close 7 ∷ Set 8 4 ∷ []) ∷ (Reopen 7 ∷ Set 8 20 ∷ []) ∷ []) ≡ Some six
two_groups = refl

second_group_refused : after six ((Close 7 ∷ []) ∷ (Reopen 7 ∷ Reopen 7 ∷ []) ∷ []) ≡ None
second_group_refused = refl

walked : Walk six 1 6 (2 ∷ 4 ∷ 7 ∷ 3 ∷ 6 ∷ [])
walked = (_, refl, refl, refl, (_, refl, refl, refl, (_, refl, refl, refl, (_, refl, refl, refl, (_, refl, refl, refl, ((lit≤ tt, lit≤ tt), refl))))))

walked_length : length_of six (2 ∷ 4 ∷ 7 ∷ 3 ∷ 6 ∷ []) ≡ 15
walked_length = refl

whole : flaw_of 6 six.arcs (6 ∷ 3 ∷ 6 ∷ []) ≡ None
whole = refl

no_node : flaw_of 0 six.arcs [] ≡ Some NumberRange
no_node = refl

-- the lower number is answered first
long_before_stray : flaw_of 5 (open_arc 1 6 2147483648 ∷ []) [] ≡ Some LengthRange
long_before_stray = refl

stray_landmark : flaw_of 6 six.arcs (7 ∷ []) ≡ Some NoSuchNode
stray_landmark = refl
