-- Which replies are whose is told by the events and the replies alone.
use Rattle.std.proofs.Common.{◌≡◌, ⊎_elim, inl, inr, ℕ, true, false, List, [], ◌∷◌, ◌++◌, Option, Some, None, Result, Ok, Err, refl, sym, ◌∙◌, ap, subst}
use Rattle.std.specs.Prelude.{map}
use Rattle.std.specs.List.{flat_map}
use Rattle.roadnet.specs.declared.groups.Group.{Group}
use Rattle.roadnet.specs.declared.refusals.Refusal.{Refusal}
use Rattle.roadnet.specs.declared.refusals.Refusal.TheVariants.{NoTask}
use Rattle.machine.specs.declared.events.Event.{Event}
use Rattle.machine.specs.declared.events.Event.TheVariants.{Submit, Flush, Checkpoint, CheckpointStep, Task, Publish, Ask, Stop, StopWithin}
use Rattle.machine.specs.declared.events.Writing.{Writing}
use Rattle.machine.specs.declared.events.Writing.TheVariants.{Flush as a_flush, Checkpoint as a_checkpoint, Step as a_step}
use Rattle.machine.specs.declared.events.Replied.{Replied}
use Rattle.machine.specs.declared.events.Replied.TheVariants.{Shown, Refused, Opened, Stopped as StoppedAlone}
use Rattle.machine.specs.Machine.{Machine}
use Rattle.machine.specs.Lives.{told_ticket, told_version, told_part, told_task, told_answer, Writes, StopComes, Does, StopsFor, Turn, Passes, Ends}
use Rattle.machine.specs.Lives.Ends.{Whole, NoMemory, NotOpened}
use Rattle.machine.specs.Headline.{is_of_stop, TellsStop, HasReplies, EachHasReplies, TurnsAreTold}
use Rattle.machine.proofs.Acknowledged.{all_both}

-- ---- each turn of a run has an event's replies
version_no_stop : (result : Result ℕ Refusal) → is_of_stop (told_version result) ≡ false
version_no_stop (Ok version) = refl
version_no_stop (Err refusal) = refl

part_no_stop : (result : Result (Option ℕ) Refusal) → is_of_stop (told_part result) ≡ false
part_no_stop (Ok None) = refl
part_no_stop (Ok (Some version)) = refl
part_no_stop (Err refusal) = refl

write_no_stop : (w : Writing) (a b : Machine) (reply : Replied) → Writes a w reply b → is_of_stop reply ≡ false
write_no_stop a_flush a b reply w = ap is_of_stop w.2 ∙ version_no_stop w.0
write_no_stop a_checkpoint a b reply w = ap is_of_stop w.2 ∙ version_no_stop w.0
write_no_stop (a_step pages) a b reply w = ap is_of_stop w.2 ∙ part_no_stop w.0

stop_told : (w : Writing) (a b : Machine) (replies : List Replied) (final : Replied) → is_of_stop final ≡ true → StopComes a w replies final b → TellsStop replies
stop_told w a b replies final own comes =
    ⊎_elim (λ within. (final, own, inl within.1)) (λ behind. (final, own, inr (behind.0, write_no_stop w a b behind.0 behind.1, behind.2))) comes

replied : (P : Type 0) (e : Event P) (a b : Machine) (replies : List Replied) → Does a e replies b → HasReplies e replies
replied P (Submit c) a b replies d = (told_ticket d.0, d.2)
replied P Flush a b replies d = (d.0, d.2)
replied P Checkpoint a b replies d = (d.0, d.2)
replied P (CheckpointStep pages) a b replies d = (d.0, d.2)
replied P Task a b replies d = (told_task d.0, d.2)
replied P Publish a b replies d = ⊎_elim (λ p. (Shown p.0, p.3)) (λ n. (Refused NoTask, n.2)) d
replied P (Ask query) a b replies d = (told_answer query d.0, d.2)
replied P Stop a b replies d = (Opened d.0, d.2)
replied P (StopWithin call picks writing) a b replies d = stop_told writing a d.0 replies (Opened d.1) refl d.2

replied_at_end : (P : Type 0) (e : Event P) (a last : Machine) (replies : List Replied) → StopsFor a e replies last → HasReplies e replies
replied_at_end P Stop a last replies stops = (StoppedAlone, stops.1)
replied_at_end P (StopWithin call picks writing) a last replies stops = stop_told writing a last replies StoppedAlone refl stops
replied_at_end P (Submit c) a last replies stops = absurd stops
replied_at_end P Flush a last replies stops = absurd stops
replied_at_end P Checkpoint a last replies stops = absurd stops
replied_at_end P (CheckpointStep pages) a last replies stops = absurd stops
replied_at_end P Task a last replies stops = absurd stops
replied_at_end P Publish a last replies stops = absurd stops
replied_at_end P (Ask query) a last replies stops = absurd stops

passed_replied : {P : Type 0} (turns : List (Turn P)) (a b : Machine) → Passes a turns b → EachHasReplies turns
passed_replied [] a b p = tt
passed_replied (turn ∷ turns) a b p = (replied _ turn.0 a p.0 turn.1 p.1, passed_replied turns p.0 b p.2)

pub each_has_replies : {P : Type 0} (first last : Machine) (turns : List (Turn P)) (rest : List (Event P)) (ended : Option Refusal) (history : List Group) → Ends first turns rest ended history last → EachHasReplies turns
each_has_replies first last turns rest ended history (Whole passes none nothing is) = passed_replied turns first last passes
each_has_replies first last turns rest ended history (NoMemory passes before some is) = passed_replied turns first last passes
each_has_replies first last turns rest ended history (NotOpened before turn mid whole passes stops why is) =
    subst (λ (ts : List (Turn _)). EachHasReplies ts) (sym whole)
    (all_both (λ (t : Turn _). HasReplies t.0 t.1) before (turn ∷ []) (passed_replied before first mid passes) (replied_at_end _ turn.0 mid last turn.1 stops, tt))

-- ---- no other turns have these events and these replies
heads : {X : Type 0} (x y : X) (xs ys : List X) → x ∷ xs ≡ y ∷ ys → (x ≡ y) × (xs ≡ ys)
heads x y xs ys e = (cc, cc)

module _ (r s more less : List Replied) (both : r ++ more ≡ s ++ less) where
  -- both begin with these
  begin : (xs ys : List Replied) → r ≡ xs → s ≡ ys → xs ++ more ≡ ys ++ less
  begin xs ys r_is s_is = sym (ap (λ (l : List Replied). l ++ more) r_is) ∙ (both ∙ ap (λ (l : List Replied). l ++ less) s_is)

  one_one : (a b : Replied) → r ≡ a ∷ [] → s ≡ b ∷ [] → (r ≡ s) × (more ≡ less)
  one_one a b r_is s_is =
      let h = heads a b more less (begin (a ∷ []) (b ∷ []) r_is s_is) in
      (r_is ∙ (ap (λ (x : Replied). x ∷ []) h.0 ∙ sym s_is), h.1)

  two_two : (a b c d : Replied) → r ≡ a ∷ b ∷ [] → s ≡ c ∷ d ∷ [] → (r ≡ s) × (more ≡ less)
  two_two a b c d r_is s_is =
      let h = heads a c (b ∷ more) (d ∷ less) (begin (a ∷ b ∷ []) (c ∷ d ∷ []) r_is s_is) in
      let k = heads b d more less h.1 in
      (r_is ∙ (ap (λ (x : Replied). x ∷ b ∷ []) h.0 ∙ (ap (λ (x : Replied). c ∷ x ∷ []) k.0 ∙ sym s_is)), k.1)

  -- one of two replies is no stop's own
  one_two : (a c d : Replied) → is_of_stop a ≡ true → is_of_stop c ≡ false → r ≡ a ∷ [] → s ≡ c ∷ d ∷ [] → ⊥
  one_two a c d own other r_is s_is =
      let h = heads a c more (d ∷ less) (begin (a ∷ []) (c ∷ d ∷ []) r_is s_is) in
      no_bool (sym own ∙ (ap is_of_stop h.0 ∙ other))
    where
      no_bool : true ≡ false → ⊥
      no_bool e = cc

  two_one : (a b c : Replied) → is_of_stop a ≡ false → is_of_stop c ≡ true → r ≡ a ∷ b ∷ [] → s ≡ c ∷ [] → ⊥
  two_one a b c other own r_is s_is =
      let h = heads a c (b ∷ more) less (begin (a ∷ b ∷ []) (c ∷ []) r_is s_is) in
      no_bool (sym own ∙ (sym (ap is_of_stop h.0) ∙ other))
    where
      no_bool : true ≡ false → ⊥
      no_bool e = cc

  of_stop : TellsStop r → TellsStop s → (r ≡ s) × (more ≡ less)
  of_stop x y = ⊎_elim
      (λ (x_one : r ≡ x.0 ∷ []). ⊎_elim
      (λ y_one. one_one x.0 y.0 x_one y_one)
      (λ y_two. absurd (one_two x.0 y_two.0 y.0 x.1 y_two.1 x_one y_two.2))
      y.2)
      (λ x_two. ⊎_elim
      (λ (y_one : s ≡ y.0 ∷ []). absurd (two_one x_two.0 x.0 y.0 x_two.1 y.1 x_two.2 y_one))
      (λ y_two. two_two x_two.0 x.0 y_two.0 y.0 x_two.2 y_two.2)
      y.2)
      x.2

  same_replies : {P : Type 0} (e : Event P) → HasReplies e r → HasReplies e s → (r ≡ s) × (more ≡ less)
  same_replies (StopWithin call picks writing) x y = of_stop x y
  same_replies (Submit c) x y = one_one x.0 y.0 x.1 y.1
  same_replies Flush x y = one_one x.0 y.0 x.1 y.1
  same_replies Checkpoint x y = one_one x.0 y.0 x.1 y.1
  same_replies (CheckpointStep pages) x y = one_one x.0 y.0 x.1 y.1
  same_replies Task x y = one_one x.0 y.0 x.1 y.1
  same_replies Publish x y = one_one x.0 y.0 x.1 y.1
  same_replies (Ask query) x y = one_one x.0 y.0 x.1 y.1
  same_replies Stop x y = one_one x.0 y.0 x.1 y.1

never_none : (r more : List Replied) (reply : Replied) (others : List Replied) → r ≡ reply ∷ others → [] ≡ r ++ more → ⊥
never_none r more reply others is none = no_list (none ∙ ap (λ (l : List Replied). l ++ more) is)
  where
    no_list : [] ≡ reply ∷ (others ++ more) → ⊥
    no_list e = cc

some_reply : (P : Type 0) (e : Event P) (r more : List Replied) → HasReplies e r → [] ≡ r ++ more → ⊥
some_reply P (StopWithin call picks writing) r more x none =
    ⊎_elim (λ one. never_none r more x.0 [] one none) (λ two. never_none r more two.0 (x.0 ∷ []) two.2 none) x.2
some_reply P (Submit c) r more x none = never_none r more x.0 [] x.1 none
some_reply P Flush r more x none = never_none r more x.0 [] x.1 none
some_reply P Checkpoint r more x none = never_none r more x.0 [] x.1 none
some_reply P (CheckpointStep pages) r more x none = never_none r more x.0 [] x.1 none
some_reply P Task r more x none = never_none r more x.0 [] x.1 none
some_reply P Publish r more x none = never_none r more x.0 [] x.1 none
some_reply P (Ask query) r more x none = never_none r more x.0 [] x.1 none
some_reply P Stop r more x none = never_none r more x.0 [] x.1 none

same_turn : {P : Type 0} (e f : Event P) (r s : List Replied) (turns others : List (Turn P)) → e ≡ f → r ≡ s → turns ≡ others → (e, r) ∷ turns ≡ (f, s) ∷ others
same_turn e f r s turns others event replies rest = cc

pub turns_are_told : (P : Type 0) → TurnsAreTold P
turns_are_told P [] [] rest other_rest events replies all others = refl
turns_are_told P [] (y ∷ ys) rest other_rest events replies all others =
    absurd (some_reply P y.0 y.1 (flat_map (λ (turn : Turn P). turn.1) ys) others.0 replies)
turns_are_told P (x ∷ xs) [] rest other_rest events replies all others =
    absurd (some_reply P x.0 x.1 (flat_map (λ (turn : Turn P). turn.1) xs) all.0 (sym replies))
turns_are_told P (x ∷ xs) (y ∷ ys) rest other_rest events replies all others =
    let event = heads x.0 y.0 (map (λ (turn : Turn P). turn.0) xs ++ rest) (map (λ (turn : Turn P). turn.0) ys ++ other_rest) events in
    let mine : HasReplies y.0 x.1 = subst (λ (e : Event P). HasReplies e x.1) event.0 all.0 in
    let told = same_replies x.1 y.1 (flat_map (λ (turn : Turn P). turn.1) xs) (flat_map (λ (turn : Turn P). turn.1) ys) replies y.0 mine others.0 in
    same_turn x.0 y.0 x.1 y.1 xs ys event.0 told.0 (turns_are_told P xs ys rest other_rest event.1 told.1 all.1 others.1)
