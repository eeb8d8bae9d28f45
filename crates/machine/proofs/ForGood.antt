-- What is told in a run over a disk is for good.
use Rattle.std.proofs.Common.{◌≡◌, ◌∙◌, ℕ, zero, suc, ◌+◌, ◌-◌, ◌≤◌, List, [], ◌∷◌, length, take, Option, Some, refl, sym, ap, subst, arith}
use Rattle.std.proofs.lemmas.List.{take_all}
use Rattle.std.specs.List.{AllByRecursion}
use Rattle.roadnet.specs.declared.groups.Group.{Group}
use Rattle.roadnet.specs.declared.refusals.Refusal.{Refusal}
use Rattle.roadnet.specs.Net.{Net}
use Rattle.roadnet.specs.Step.{after}
use Rattle.machine.specs.declared.events.Event.{Event}
use Rattle.machine.specs.declared.events.Replied.{Replied}
use Rattle.machine.specs.Machine.{Sizes, Machine, start}
use Rattle.machine.specs.Laws.{IsAt}
use Rattle.machine.specs.Lives.{Turn, Ends, Whole, NoMemory, NotOpened, LivesOn, HoldsDurable}
use Rattle.machine.specs.Headline.{HoldsTold, ToldForGood, IsRightReply, acknowledged_in, accepted_in}
use Rattle.machine.proofs.Kept.{started, left_between}
use Rattle.machine.proofs.Accepted.{accepted_at_end}
use Rattle.machine.proofs.Turns.{each_has_replies}
use Rattle.machine.proofs.OverLives.{Ended, end_of, stops_leave_acknowledged, stops_leave_answers}

front_again : {X : Type 0} (n : ℕ) (xs : List X) → take (length (take n xs)) xs ≡ take n xs
front_again zero xs = refl
front_again (suc n) [] = refl
front_again (suc n) (x ∷ xs) = ap (λ (l : List _). x ∷ l) (front_again n xs)

whole_begins : (history accepted : List Group) → history ≡ accepted → history ≡ take (length history) accepted
whole_begins history accepted is = is ∙ sym (take_all (length history) accepted (omega (arith, ap length is)))

front_begins : (history accepted : List Group) (n : ℕ) → history ≡ take n accepted → history ≡ take (length history) accepted
front_begins history accepted n is = is ∙ sym (ap (λ (h : List Group). take (length h) accepted) is ∙ front_again n accepted)

begins : {P : Type 0} (first last : Machine) (turns : List (Turn P)) (rest : List (Event P)) (ended : Option Refusal) (history : List Group) → Ends first turns rest ended history last → history ≡ take (length history) last.accepted
begins first last turns rest ended history (Whole passes none nothing is) = whole_begins history last.accepted is
begins first last turns rest ended history (NoMemory passes before some is) = whole_begins history last.accepted is
begins first last turns rest ended history (NotOpened before turn mid whole passes stops why is) = front_begins history last.accepted (last.durable - last.base_version) is

pub told_for_good : {P : Type 0} (StandsFor : List ℕ → Net → ℕ → Type 0) (left : List ℕ → Type 0) (sizes : Sizes) (base : Net) (version unchecked : ℕ) (events : List (Event P)) (replies : List Replied) (ended : Option Refusal) (history : List Group)
    → LivesOn StandsFor left sizes base version unchecked events replies ended history → ToldForGood StandsFor left base version events replies history
told_for_good {P} StandsFor left sizes base version unchecked events replies ended history r = record {
  turns = r.lives.turns;
  rest = r.lives.rest;
  events_are = r.lives.events_are;
  replies_are = r.lives.replies_are;
  each_replied = each_has_replies (start sizes base version unchecked) last r.lives.turns r.lives.rest ended history r.lives.ends;
  history_begins =
      subst (λ (accepted : List Group). history ≡ take (length history) accepted) (sym accepted_is)
      (begins (start sizes base version unchecked) last r.lives.turns r.lives.rest ended history r.lives.ends);
  each_left = λ content was.
      subst (λ (accepted : List Group). HoldsTold StandsFor base version accepted (acknowledged_in [] r.lives.turns) replies content) (sym accepted_is)
      (held content (r.each_left content was));
}
  where
    last : Machine
    last = r.last

    end : Ended (start sizes base version unchecked) r.lives.turns history last
    end = end_of (start sizes base version unchecked) last r.lives.turns r.lives.rest ended history (started sizes base version unchecked r.version_to r.unchecked_to) r.lives.ends

    accepted_is : accepted_in version [] r.lives.turns ≡ last.accepted
    accepted_is = accepted_at_end (start sizes base version unchecked) last r.lives.turns r.lives.rest ended history (started sizes base version unchecked r.version_to r.unchecked_to) r.lives.ends

    base_is : last.base ≡ base
    base_is = end.later.base

    version_is : last.base_version ≡ version
    version_is = end.later.base_version

    held : (content : List ℕ) → HoldsDurable StandsFor last content → HoldsTold StandsFor base version last.accepted (acknowledged_in [] r.lives.turns) replies content
    held content h =
        let between = left_between last end.state h.version h.left in
        let from : version ≤ h.version = omega (arith, version_is, between, end.state.base_opened, end.state.opened_shown, end.state.shown_durable) in
        let whole : version + (h.version - version) ≡ h.version = omega (arith, from) in
        record {
          count = h.version - version;
          count_to = omega (arith, version_is, between);
          network = h.network;
          network_is =
              subst (λ (v : ℕ). after base (take (h.version - v) last.accepted) ≡ Some h.network) version_is
              (subst (λ (b : Net). after b (take (h.version - last.base_version) last.accepted) ≡ Some h.network) base_is h.network_is);
          stands = subst (StandsFor content h.network) (sym whole) h.stands;
          each_acknowledged =
              subst (λ (v : ℕ). AllByRecursion (IsAt version (take (h.version - v) last.accepted)) (acknowledged_in [] r.lives.turns)) version_is
              (stops_leave_acknowledged P sizes base version unchecked events replies ended history last h.version r.version_to r.unchecked_to r.lives h.left);
          each_answer =
              subst (λ (v : ℕ). AllByRecursion (IsRightReply base version (take (h.version - v) last.accepted)) replies) version_is
              (stops_leave_answers P sizes base version unchecked events replies ended history last h.version r.version_to r.unchecked_to r.lives h.left);
        }
