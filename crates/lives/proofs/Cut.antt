-- A stop takes its picks, and the old bytes where it has none; and what a run has of its stops, so far and in the end.
use Rattle.std.proofs.Common.{◌≡◌, ◌⊎◌, ⊎_elim, inl, inr, ◌≤◌, ℕ, zero, suc, Bool, true, List, [], ◌∷◌, ◌++◌, length, Option, None, Some, refl, sym, ◌∙◌, ap, subst, false, arith, length-append}
use Rattle.std.proofs.lemmas.List.{append-nil, append_cancel_left, append_cancel_right}
use Rattle.std.specs.Prelude.{IsTrue, IfSome, map}
use Rattle.std.specs.List.{flat_map}
use Rattle.roadnet.specs.declared.refusals.Refusal.{Refusal}
use Rattle.disk.specs.Stop.{armed_at}
use Rattle.disk.specs.declared.disk.Disk.{Ghosts}
use Rattle.disk.specs.declared.stoppable.Stoppable.{Ghosts as StoppableGhosts}
use Rattle.disk.specs.declared.stoppable.Pick.{Pick}
use Rattle.disk.specs.declared.stoppable.Pick.TheVariants.{Old}
use Rattle.machine.specs.declared.events.Event.{Event}
use Rattle.machine.specs.declared.events.Event.TheVariants.{Submit, Flush, Checkpoint, CheckpointStep, Task, Publish, Ask, Stop, StopWithin}
use Rattle.machine.specs.declared.events.Replied.{Replied}
use Rattle.machine.specs.Machine.{Machine}
use Rattle.machine.specs.Lives.{Turn, Passes}
use Rattle.machine.proofs.OverLives.{passes_more}
use Rattle.machine.proofs.Rehearsing.{events_more, replies_more}
use Rattle.lives.specs.Cutting.{IsCut, HasCut, TurnHasCut, EachHasCut, HaveCut, TurnsTo, TurnsLast, first_state, picks_taken, picks_of}
use Rattle.lives.specs.Rehearsing.{is_stop, First}

pub cut_by_taken : {D : Type 0} (disk : Ghosts D) (stoppable : StoppableGhosts D) (picks : List Pick) (old : D) (cut : List ℕ)
    → (1 ≤ length picks → IsCut disk stoppable picks old cut) → (picks ≡ [] → IsCut disk stoppable (Old ∷ []) old cut)
    → IsCut disk stoppable (picks_taken picks) old cut
cut_by_taken disk stoppable [] old cut some none = none refl
cut_by_taken disk stoppable (pick ∷ picks) old cut some none = some (omega arith)

pub no_picks : (event : Event Pick) → is_stop event ≡ false → picks_of event ≡ None
no_picks (Submit c) calm = refl
no_picks Flush calm = refl
no_picks Checkpoint calm = refl
no_picks (CheckpointStep pages) calm = refl
no_picks Task calm = refl
no_picks Publish calm = refl
no_picks (Ask query) calm = refl
no_picks Stop calm = cc
no_picks (StopWithin call picks writing) calm = cc

-- where the stop's own reply is the only one, the event's was not told
pub came_alone : (came : Bool) (A : Type 0) (replies replies' told : List Replied) (written last : Replied) → (IsTrue came → A) → (came ≡ false → replies' ≡ replies ++ written ∷ []) → replies' ≡ replies ++ told
    → told ++ last ∷ [] ≡ last ∷ [] → A
came_alone true A replies replies' told written last come behind is alone = come refl
came_alone false A replies replies' told written last come behind is alone =
    let one = length-append replies (written ∷ []) in
    let some = length-append replies told in
    let same : length (replies ++ written ∷ []) ≡ length (replies ++ told) = ap length (sym (behind refl) ∙ is) in
    let two = length-append told (last ∷ []) in
    let none : length (told ++ last ∷ []) ≡ 1 = ap length alone in
    absurd (omega (arith, one, some, same, two, none))

-- ---- the last of some turns
split_last : {X : Type 0} (xs before behind : List X) (x y : X) → xs ++ x ∷ [] ≡ before ++ y ∷ behind → ((rest : List X) × (xs ≡ before ++ y ∷ rest)) ⊎ ((before ≡ xs) × (y ≡ x))
split_last [] [] behind x y is = inr (refl, cc)
split_last [] (b ∷ before) behind x y is =
    let sizes = length-append before (y ∷ behind) in
    let same : 1 ≡ length (b ∷ (before ++ y ∷ behind)) = ap length is in
    absurd (omega (arith, sizes, same))
split_last (u ∷ xs) [] behind x y is = inl (xs, cc)
split_last (u ∷ xs) (b ∷ before) behind x y is =
    let heads : u ≡ b = cc in
    let tails : xs ++ x ∷ [] ≡ before ++ y ∷ behind = cc in
    ⊎_elim (λ l. let more : xs ≡ before ++ y ∷ l.0 = l.1 in inl (l.0, cc)) (λ r. let all : before ≡ xs = r.0 in inr (cc, r.1)) (split_last xs before behind x y tails)

-- where the event's own reply tells that the disk failed, no armed call came
pub own_failure : (came : Bool) (A : Type 0) (replies replies' told : List Replied) (written last own : Replied) → (A → IsTrue came) → (came ≡ true → written ≡ own → replies' ≡ replies) → (replies' ≡ replies ++ written ∷ []) ⊎ ((written ≡ own) × (replies' ≡ replies))
    → replies' ≡ replies ++ told → told ++ last ∷ [] ≡ own ∷ last ∷ [] → A → ⊥
own_failure false A replies replies' told written last own come within wrote is two armed = absurd (let never : false ≡ true = come armed in cc)
own_failure true A replies replies' told written last own come within wrote is two armed =
    let both : told ++ last ∷ [] ≡ (own ∷ []) ++ last ∷ [] = two in
    let told_is : told ≡ own ∷ [] = append_cancel_right told (own ∷ []) (last ∷ []) both in
    let now : replies' ≡ replies ++ own ∷ [] = is ∙ ap (λ (rs : List Replied). replies ++ rs) told_is in
    let longer = length-append replies (own ∷ []) in
    let never : replies' ≡ replies → ⊥ =
    λ same.
    let sizes : length replies ≡ length (replies ++ own ∷ []) = ap length (sym same ∙ now) in
    absurd (omega (arith, longer, sizes)) in
    ⊎_elim
    (λ behind.
    let tails : written ∷ [] ≡ own ∷ [] = append_cancel_left replies (written ∷ []) (own ∷ []) (sym behind ∙ now) in
    let same : written ≡ own = cc in
    never (within refl same))
    (λ cut. never cut.1)
    wrote

-- what arming a call leaves armed
pub armed_so : (call : ℕ) (was now : Option ℕ) → now ≡ armed_at call was → (now ≡ Some call) ⊎ (now ≡ Some 0)
armed_so call None now is = inl is
armed_so call (Some zero) now is = inr is
armed_so call (Some (suc k)) now is = inl is

-- ---- a run so far, which has come to this state
pub record CutSoFar {D : Type 0} (disk : Ghosts D) (stoppable : StoppableGhosts D) (first : First) (events : List (Event Pick)) (replies : List Replied) (m : Machine) : Type 0 where
  pub turns : List (Turn Pick)
  pub events_are : events ≡ map (λ turn. turn.0) turns
  pub replies_are : replies ≡ flat_map (λ turn. turn.1) turns
  pub passes : Passes (first_state first) turns m
  pub each : EachHasCut disk stoppable (first_state first) turns

module _ {D : Type 0} (disk : Ghosts D) (stoppable : StoppableGhosts D) where
  each_none : (first : Machine) → EachHasCut disk stoppable first []
  each_none first before turn behind is =
      let sizes = length-append before (turn ∷ behind) in
      let same : 0 ≡ length (before ++ turn ∷ behind) = ap length is in
      absurd (omega (arith, sizes, same))

  each_more : (first m : Machine) (turns : List (Turn Pick)) (turn : Turn Pick) → Passes first turns m → EachHasCut disk stoppable first turns → TurnHasCut disk stoppable m turn → EachHasCut disk stoppable first (turns ++ turn ∷ [])
  each_more first m turns turn passes each cut before other behind is =
      ⊎_elim (λ l. each before other l.0 l.1)
      (λ r. subst (λ (b : List (Turn Pick)). (old : Machine) × Passes first b old × TurnHasCut disk stoppable old other) (sym r.0)
      (subst (λ (x : Turn Pick). (old : Machine) × Passes first turns old × TurnHasCut disk stoppable old x) (sym r.1) (m, passes, cut)))
      (split_last turns before behind turn other is)

  of_turn : (event : Event Pick) (told : List Replied) (m : Machine) (cut : List ℕ) (o : Option (List Pick)) → IfSome o (λ picks. HasCut disk stoppable m event told picks cut)
      → IfSome o (λ picks. (left : List ℕ) × HasCut disk stoppable m event told picks left)
  of_turn event told m cut None h = tt
  of_turn event told m cut (Some picks) h = (cut, h)

  pub cut_none : (first : First) (replies : List Replied) (m : Machine) → replies ≡ [] → m ≡ first_state first → CutSoFar disk stoppable first [] replies m
  cut_none first replies m none begins = record { turns = []; events_are = refl; replies_are = none; passes = begins; each = each_none (first_state first) }

  module _ (first : First) (events : List (Event Pick)) (replies : List Replied) (m : Machine) (s : CutSoFar disk stoppable first events replies m) (event : Event Pick) (now : List Replied) where
    pub cut_more : (new : Machine) (cut : List ℕ) → TurnsTo disk stoppable m event replies now new cut → CutSoFar disk stoppable first (events ++ event ∷ []) now new
    cut_more new cut t = record {
      turns = s.turns ++ (event, t.told) ∷ [];
      events_are = events_more s.turns events event t.told s.events_are;
      replies_are = t.replies_are ∙ replies_more s.turns replies event t.told s.replies_are;
      passes = passes_more s.turns (event, t.told) (first_state first) m new s.passes t.does;
      each = each_more (first_state first) m s.turns (event, t.told) s.passes s.each (of_turn event t.told m cut (picks_of event) t.has_cut);
    }

    -- with the turn that ends it
    pub cut_last : (rest : List (Event Pick)) (ended : Option Refusal) → TurnsLast disk stoppable m event replies now → (ended ≡ None → ⊥) → HaveCut disk stoppable first ((events ++ event ∷ []) ++ rest) now ended
    cut_last rest ended t early = record {
      turns = s.turns ++ (event, t.told) ∷ [];
      rest = rest;
      events_are = ap (λ (es : List (Event Pick)). es ++ rest) (events_more s.turns events event t.told s.events_are);
      replies_are = t.replies_are ∙ replies_more s.turns replies event t.told s.replies_are;
      each = each_more (first_state first) m s.turns (event, t.told) s.passes s.each t.has_cut;
      whole = λ none. absurd (early none);
    }

  module _ (first : First) (events : List (Event Pick)) (replies : List Replied) (m : Machine) (s : CutSoFar disk stoppable first events replies m) where
    pub cut_early : (rest : List (Event Pick)) (ended : Option Refusal) → (ended ≡ None → ⊥) → HaveCut disk stoppable first (events ++ rest) replies ended
    cut_early rest ended early = record {
      turns = s.turns;
      rest = rest;
      events_are = ap (λ (es : List (Event Pick)). es ++ rest) s.events_are;
      replies_are = s.replies_are;
      each = s.each;
      whole = λ none. absurd (early none);
    }

    pub cut_whole : (ended : Option Refusal) → HaveCut disk stoppable first events replies ended
    cut_whole ended = record {
      turns = s.turns;
      rest = [];
      events_are = s.events_are ∙ sym (append-nil (map (λ turn. turn.0) s.turns));
      replies_are = s.replies_are;
      each = s.each;
      whole = λ _. refl;
    }

  pub cut_of : (first : First) (events events' : List (Event Pick)) (replies : List Replied) (ended : Option Refusal) → events ≡ events' → HaveCut disk stoppable first events replies ended → HaveCut disk stoppable first events' replies ended
  cut_of first events events' replies ended same h = subst (λ (es : List (Event Pick)). HaveCut disk stoppable first es replies ended) same h
